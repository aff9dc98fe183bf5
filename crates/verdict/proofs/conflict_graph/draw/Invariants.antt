-- What the loop of `draw` keeps.
use Rattle.verdict.specs.Inner.Edges.{Drawn}
use Rattle.verdict.specs.Inner.ConflictEdges.{Touched, conflicts_until}
use Rattle.verdict.proofs.conflict_graph.draw.Given as goal

abbrev pub invariant-loop-i : goal.invariant-loop-i
invariant-loop-i l = Drawn (conflicts_until l.log l.i) l.matrix × Touched l.log l.i l.touched
