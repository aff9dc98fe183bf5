-- `least_open` meets its contract.
use native.Mathlib.Omega.{arith}
use Rattle.live.proofs.RoomSteps.{open_next, least_none, least_all, least_more}
use Rattle.live.proofs.room.least_open.Goals as goal

pub loop-i-init : goal.loop-i-init
loop-i-init c = let q = c.requires in (q.1, q.0, least_none _)

pub loop-i-preserved : goal.loop-i-preserved
loop-i-preserved c = let i = c.loop-i.invariant in (i.0, i.1, least_more i.2 (open_next _ _) c.lower-least.ensures)

pub returns : goal.returns
returns c = least_all _ (omega arith) c.loop-i.invariant.2
