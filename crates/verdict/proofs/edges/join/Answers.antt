-- `join` meets its contract.
use Rattle.verdict.proofs.Matrices.{edge_added}
use Rattle.verdict.proofs.edges.join.Goals as goal

pub returns : goal.returns
returns c =
    edge_added c.requires (rw c.from.ensures at c.with_vertex-one.ensures) (rw c.from-2.ensures at c.join.ensures)
