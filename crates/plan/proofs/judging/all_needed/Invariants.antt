-- What the loop of `all_needed` keeps.
use Rattle.plan.proofs.Sparing.{NoneSpare}
use Rattle.plan.proofs.judging.all_needed.Given as goal

abbrev pub invariant-loop-t : goal.invariant-loop-t
invariant-loop-t l = NoneSpare l.log l.marks l.t
