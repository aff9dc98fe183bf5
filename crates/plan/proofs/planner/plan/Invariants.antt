-- What the loop of `plan` keeps, and why it ends.
use Rattle.plan.specs.Inner.Planning.{Planning}
use Rattle.plan.proofs.Plans.{to_do}
use Rattle.plan.proofs.planner.plan.Given as goal

abbrev pub invariant-loop-t : goal.invariant-loop-t
invariant-loop-t l = Planning l.log l.back l.waits

abbrev pub decreases-loop-t : goal.decreases-loop-t
decreases-loop-t l = to_do l.back l.waits
