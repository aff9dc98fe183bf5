-- What the loop of `draw` keeps.
use Rattle.verdict.specs.Inner.Edges.{Drawn}
use Rattle.verdict.specs.Inner.VersionEdges.{versions_until}
use Rattle.verdict.proofs.version_graph.draw.Given as goal

abbrev pub invariant-loop-i : goal.invariant-loop-i
invariant-loop-i l = Drawn (versions_until l.log l.i) l.matrix
