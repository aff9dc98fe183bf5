-- What the loop of `need_table` keeps.
use mathlib.Core.Path.{◌≡◌}
use Rattle.verdict.specs.Refusal.{log_refusal}
use Rattle.verdict.specs.Inner.Marks.{Committed}
use Rattle.verdict.specs.Answers.{Passed}
use Rattle.verdict.proofs.SearchTables.{Needed}
use Rattle.verdict.proofs.search.need_table.Given as goal

abbrev pub invariant-loop-i : goal.invariant-loop-i
invariant-loop-i l = (log_refusal l.log ≡ Passed) × Committed l.log l.part × Needed l.log l.i l.table
