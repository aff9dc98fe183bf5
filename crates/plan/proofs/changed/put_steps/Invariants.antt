-- What the loop of `put_steps` keeps.
use mathlib.Core.Path.{◌≡◌}
use Prim.Native.Nat.{◌*◌}
use lib.ListN.{length, take}
use Rattle.plan.specs.TakenBack.{steps_after}
use Rattle.plan.specs.Inner.Marks.{marked}
use Rattle.plan.specs.Inner.Trials.{step_numbers}
use Rattle.plan.proofs.changed.put_steps.Given as goal

abbrev pub invariant-loop-i : goal.invariant-loop-i
invariant-loop-i l = (length l.changed ≡ step_numbers) × (take (4 * l.i) l.changed ≡ steps_after (marked l.back) l.log l.i)
