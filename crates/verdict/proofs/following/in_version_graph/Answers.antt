-- `in_version_graph` meets its contract.
use mathlib.Core.Path.{refl}
use Rattle.words.specs.Lists.{zeros}
use Rattle.verdict.proofs.Matrices.{no_edges}
use Rattle.verdict.proofs.following.in_version_graph.Goals as goal

pub draw-requires : goal.draw-requires
unfolding zeros
draw-requires c = let q = c.requires in (q.0, q.2, q.3, no_edges refl)

pub follow-requires : goal.follow-requires
follow-requires c =
    let q = c.requires in
    (q.0, q.1, q.2, c.draw.ensures)

pub returns : goal.returns
returns c = c.follow.ensures
