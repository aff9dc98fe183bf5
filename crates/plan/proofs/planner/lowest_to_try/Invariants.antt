-- What the loop of `lowest_to_try` keeps.
use mathlib.Core.Path.{◌≡◌}
use mathlib.Core.Bool.{false}
use Rattle.words.specs.Tests.{some}
use Rattle.plan.specs.Inner.Planning.{can_try}
use Rattle.plan.proofs.planner.lowest_to_try.Given as goal

abbrev pub invariant-loop-t : goal.invariant-loop-t
invariant-loop-t l = some l.t (can_try l.back l.waits) ≡ false
