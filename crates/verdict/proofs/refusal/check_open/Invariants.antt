-- What the loop of `check_open` keeps.
use Rattle.std.proofs.Common.{◌≡◌}
use Rattle.verdict.specs.Answers.{Passed}
use Rattle.verdict.specs.Refusal.{tried}
use Rattle.verdict.specs.Inner.Checking.{open_by_lives}
use Rattle.verdict.proofs.refusal.check_open.Given as goal

abbrev pub invariant-loop-t : goal.invariant-loop-t
invariant-loop-t l = tried l.t (open_by_lives l.lives) ≡ Passed
