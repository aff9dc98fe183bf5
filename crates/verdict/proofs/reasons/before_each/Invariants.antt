-- What the loop of `before_each` keeps.
use Rattle.verdict.proofs.Standing.{Stood}
use Rattle.verdict.proofs.reasons.before_each.Given as goal

abbrev pub invariant-loop-i : goal.invariant-loop-i
invariant-loop-i l = Stood l.members l.i l.last l.before
