-- `draw` meets its contract.
use mathlib.Core.Path.{◌≡◌, refl}
use Prim.Native.Nat.{◌/◌}
use native.Mathlib.Numerals.{add-one}
use lib.ListN.{length}
use Rattle.words.specs.Tests.{some}
use Rattle.verdict.specs.Log.{steps}
use Rattle.verdict.specs.Inner.Edges.{no_edge}
use Rattle.verdict.specs.Inner.VersionEdges.{versions_until}
use Rattle.verdict.proofs.WellFormed.{well_formed}
use Rattle.verdict.proofs.Matrices.{same_edges}
use Rattle.verdict.proofs.VersionGraph.{all_versions}
use native.Mathlib.Omega.{arith}
use Rattle.verdict.proofs.version_graph.draw.Goals as goal

pub loop-i-init : goal.loop-i-init
unfolding versions_until some no_edge
loop-i-init c = same_edges c.requires.3 (λ a b. refl)

pub mark_step-requires : goal.mark_step-requires
mark_step-requires c = (c.requires.0, omega arith, c.requires.1, c.requires.2, c.loop-i.invariant)

pub loop-i-preserved : goal.loop-i-preserved
loop-i-preserved c = rw (add-one c.loop-i.i) c.mark_step.ensures

pub returns : goal.returns
unfolding steps
returns c = let e : c.loop-i.i ≡ length c.args.log.now / 4 = omega arith in
    same_edges (rw e at c.loop-i.invariant) (all_versions _ (well_formed _ c.requires.0))
