-- What the loop of `best` keeps.
use mathlib.Core.Path.{◌≡◌}
use lib.ListN.{length}
use Rattle.graph.specs.Matrix.{joined}
use Rattle.graph.proofs.Ring.{LeastSoFar}
use Rattle.graph.proofs.cycle.best.Given as goal

abbrev pub invariant-loop-s : goal.invariant-loop-s
invariant-loop-s l = (length l.layers ≡ 256) × LeastSoFar (joined 128 l.m l.part) l.s l.found l.limit
