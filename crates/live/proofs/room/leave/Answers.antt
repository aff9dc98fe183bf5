-- `leave` meets its contract.
use mathlib.Core.Path.{◌∙◌}
use native.Mathlib.Omega.{arith}
use Rattle.live.proofs.RoomSteps.{leaves_none, leaves_all, leaves_more}
use Rattle.live.proofs.room.leave.Goals as goal

pub loop-q-init : goal.loop-q-init
loop-q-init c = let q = c.requires in (q.3, q.0, q.1, q.2, leaves_none _ _)

pub lent_drop-requires : goal.lent_drop-requires
lent_drop-requires c = let i = c.loop-q.invariant in (i.4.size ∙ i.1, i.2, i.3, (omega arith), omega (arith, i.0))

pub loop-q-preserved : goal.loop-q-preserved
loop-q-preserved c =
    let i = c.loop-q.invariant in (i.0, i.1, i.2, i.3, leaves_more i.4 c.lent_drop.ensures)

pub shape_of-edges : goal.shape_of-edges
shape_of-edges c = c.loop-q.invariant.4.size

pub returns : goal.returns
returns c = leaves_all _ (omega arith) c.loop-q.invariant.4
