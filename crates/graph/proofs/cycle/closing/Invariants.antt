-- What the loop of `closing` keeps.
use Prim.Native.Nat.{◌-◌}
use Rattle.graph.specs.Matrix.{takes_part, joined}
use Rattle.graph.proofs.Layers.{Layered}
use Rattle.graph.proofs.cycle.closing.Given as goal

abbrev pub invariant-loop-d : goal.invariant-loop-d
invariant-loop-d l = Layered (joined 128 l.m l.part) (takes_part 128 l.part) l.s (l.d - 1) l.front l.rest l.layers
