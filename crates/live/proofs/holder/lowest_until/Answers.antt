-- `lowest_until` meets its contract.
use native.Mathlib.Omega.{arith}
use Rattle.live.proofs.RoomSteps.{low_more}
use Rattle.live.proofs.holder.lowest_until.Goals as goal

pub loop-i-init : goal.loop-i-init
loop-i-init c = let q = c.requires in (q.1, q.0, λ q l k e. absurd (omega arith))

pub low_with-low-requires : goal.low_with-low-requires
low_with-low-requires c = let i = c.loop-i.invariant in (i.1, omega (arith, i.0))

pub loop-i-preserved : goal.loop-i-preserved
loop-i-preserved c = let i = c.loop-i.invariant in (i.0, i.1, low_more _ c.loop-i.i c.low_with-low.ensures i.2)

pub returns : goal.returns
returns c = let i = c.loop-i.invariant in λ p u e. i.2 p u.0 (omega (arith, u.1)) e
