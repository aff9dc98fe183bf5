-- What the loop of `next_writers` keeps, and why it ends.
use mathlib.Core.Path.{◌≡◌}
use Prim.Native.Nat.{ℕ, ◌≤◌}
use Rattle.verdict.specs.Log.{steps}
use Rattle.verdict.specs.Refusal.{log_refusal}
use Rattle.verdict.specs.Inner.Checking.{committer, CommitOrder}
use Rattle.verdict.specs.Inner.WriteTable.{WriteTable}
use Rattle.verdict.specs.Answers.{Passed}
use Rattle.verdict.proofs.NextWriters.{Coming, left}
use Rattle.verdict.proofs.tables.next_writers.Given as goal

-- those who committed from some step on are in the table, and t is the last who did before it
abbrev pub invariant-loop-t : goal.invariant-loop-t
invariant-loop-t l = (log_refusal l.log ≡ Passed) × WriteTable l.log l.writes × CommitOrder l.log (steps l.log) l.earlier × (j : ℕ) × (j ≤ steps l.log) × (l.t ≡ committer l.log j) × Coming l.log j l.table

abbrev pub decreases-loop-t : goal.decreases-loop-t
decreases-loop-t l = left l.log l.t
