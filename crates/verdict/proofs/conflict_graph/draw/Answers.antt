-- `draw` meets its contract.
use mathlib.Core.Path.{◌≡◌, refl}
use Prim.Native.Nat.{◌/◌}
use native.Mathlib.Omega.{arith}
use native.Mathlib.Numerals.{add-one}
use lib.ListN.{length}
use Rattle.words.specs.Tests.{some}
use Rattle.verdict.specs.Log.{steps}
use Rattle.verdict.specs.Inner.Edges.{no_edge}
use Rattle.verdict.specs.Inner.ConflictEdges.{conflicts_until}
use Rattle.verdict.proofs.WellFormed.{well_formed}
use Rattle.verdict.proofs.Matrices.{same_edges}
use Rattle.verdict.proofs.ConflictGraph.{untouched, all_conflicts}
use Rattle.verdict.proofs.conflict_graph.draw.Goals as goal

pub loop-i-init : goal.loop-i-init
unfolding conflicts_until some no_edge
loop-i-init c = (same_edges c.requires.2 (λ a b. refl), untouched _)

pub mark_step-requires : goal.mark_step-requires
mark_step-requires c =
    let q = c.requires in
    (q.0, omega arith, q.1, c.loop-i.invariant.0, c.loop-i.invariant.1)

pub loop-i-preserved : goal.loop-i-preserved
loop-i-preserved c =
    let e = add-one c.loop-i.i in (rw e c.mark_step.ensures.0, rw e c.mark_step.ensures.1)

pub returns : goal.returns
unfolding steps
returns c =
    let e : c.loop-i.i ≡ length c.args.log.now / 4 = omega arith in
    same_edges (rw e at c.loop-i.invariant.0) (all_conflicts _ (well_formed _ c.requires.0))
