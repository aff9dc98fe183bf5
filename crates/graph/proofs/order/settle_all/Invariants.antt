-- What the loop of `settle_all` keeps.
use Rattle.graph.specs.Inner.Waiting.{Settled}
use Rattle.graph.proofs.order.settle_all.Given as goal

abbrev pub invariant-loop-u : goal.invariant-loop-u
invariant-loop-u l = Settled l.m l.left l.wait l.now l.u-iterator.0
