-- What the loop of `rising` keeps.
use Rattle.graph.specs.Matrix.{joined}
use Rattle.graph.proofs.SetWalks.{Rises}
use Rattle.graph.proofs.cycle.rising.Given as goal

abbrev pub invariant-loop-u : goal.invariant-loop-u
invariant-loop-u l = Rises (joined 128 l.m l.part) l.u l.lower l.all
