-- `find_around` meets its contract.
use native.Mathlib.Omega.{arith}
use Rattle.live.proofs.AroundLaws.{found_none, found_more, found_all}
use Rattle.live.proofs.around.find_around.Goals as goal

pub loop-q-init : goal.loop-q-init
loop-q-init c = let q = c.requires in (q.4, q.2, q.3, q.0, q.1, found_none _ 2, found_none _ 2)

pub is_before-requires : goal.is_before-requires
is_before-requires c = let i = c.loop-q.invariant in (i.3, i.4, (omega arith), omega arith, i.1, i.2)

pub is_after-requires : goal.is_after-requires
is_after-requires c = let i = c.loop-q.invariant in (i.3, i.4, (omega arith), omega arith, i.1, i.2)

pub loop-q-preserved : goal.loop-q-preserved
loop-q-preserved c =
    let i = c.loop-q.invariant in (i.0, i.1, i.2, i.3, i.4, found_more _ _ _ (omega arith) (omega arith) i.5 c.is_before.ensures c.with_if-wider.ensures, found_more _ _ _ (omega arith) (omega arith) i.6 c.is_after.ensures c.with_if-further.ensures)

pub returns : goal.returns
returns c = let i = c.loop-q.invariant in (found_all _ _ _ (omega arith) i.5, found_all _ _ _ (omega arith) i.6)
