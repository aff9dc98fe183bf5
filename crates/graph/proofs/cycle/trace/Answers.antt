-- `trace` meets its contract.
use mathlib.Core.Path.{◌≡◌}
use Prim.Native.Nat.{◌+◌, ◌-◌}
use native.Mathlib.Omega.{arith}
use Rattle.graph.specs.Inner.Finding.{IsLowest}
use Rattle.graph.proofs.Marks.{ends_to}
use Rattle.graph.proofs.SetWalks.{found_some}
use Rattle.graph.proofs.Ring.{traced_none, traced_more, traced_all, nearest, nearest_some}
use Rattle.graph.proofs.cycle.trace.Goals as goal

pub loop-k-init : goal.loop-k-init
loop-k-init c = traced_none _ _ _ _ c.requires.4 c.requires.0 c.requires.1

pub unwrap-a-requires : goal.unwrap-a-requires
unwrap-a-requires c =
    found_some _ _ c.nearer.ensures (nearest_some c.requires.3 _ _ (c.loop-k.k - 1) (omega arith) (omega arith) _ c.row.ensures (ends_to 128 _ _) c.requires.2 c.loop-k.invariant)

pub loop-k-preserved : goal.loop-k-preserved
loop-k-preserved c =
    let place : c.args.len + 1 - c.loop-k.k ≡ c.args.len - (c.loop-k.k - 1) = omega arith in
    let found : IsLowest _ c.unwrap-a.result = rw c.unwrap-a.ensures at c.nearer.ensures in
    rw place (traced_more (ends_to 128 _ _) (c.loop-k.k - 1) (omega arith) c.requires.2 c.loop-k.invariant _ (nearest c.requires.3 _ _ (c.loop-k.k - 1) (omega arith) (omega arith) _ c.row.ensures found))

pub returns : goal.returns
returns c = traced_all c.loop-k.invariant (omega arith)
