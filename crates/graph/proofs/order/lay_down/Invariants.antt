-- What the loop of `lay_down` keeps, and why it ends.
use Prim.Native.Nat.{◌-◌}
use Rattle.graph.specs.Inner.Waiting.{Settled}
use Rattle.graph.proofs.Filled.{Filled}
use Rattle.graph.proofs.order.lay_down.Given as goal

abbrev pub invariant-loop-wait : goal.invariant-loop-wait
invariant-loop-wait l = Settled l.m l.left l.wait l.ready l.todo × Filled l.m l.initial.left l.start l.initial.list l.n l.left l.list

abbrev pub decreases-loop-wait : goal.decreases-loop-wait
decreases-loop-wait l = 128 - l.n
