-- What the loop of `forget` keeps, and why it ends.
use Prim.Native.Nat.{◌≤◌}
use Rattle.live.specs.Inner.Forgetting.{LeastOpen}
use Rattle.live.proofs.ForgetPasses.{Going, to_do}
use Rattle.live.proofs.room.forget.Given as goal

abbrev pub invariant-loop-again : goal.invariant-loop-again
invariant-loop-again l = LeastOpen l.opened l.n l.least × (l.n ≤ 128) × Going l.opened l.initial.rows l.initial.edges l.n l.least l.again l.rows l.edges

abbrev pub decreases-loop-again : goal.decreases-loop-again
decreases-loop-again l = to_do l.rows l.again
