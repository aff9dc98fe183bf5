-- What the loop of `trace` keeps.
use Rattle.graph.specs.Matrix.{joined}
use Rattle.graph.proofs.Ring.{Traced}
use Rattle.graph.proofs.cycle.trace.Given as goal

abbrev pub invariant-loop-k : goal.invariant-loop-k
invariant-loop-k l = Traced (joined 128 l.m l.part) l.s l.len l.initial.list l.a l.k l.list
