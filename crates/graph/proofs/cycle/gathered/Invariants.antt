-- What the loop of `gathered` keeps.
use Rattle.graph.specs.Matrix.{joined}
use Rattle.graph.proofs.SetWalks.{Gathered}
use Rattle.graph.proofs.cycle.gathered.Given as goal

abbrev pub invariant-loop-u : goal.invariant-loop-u
invariant-loop-u l = Gathered (joined 128 l.m l.part) l.fn.front l.u-iterator.0 l.all
