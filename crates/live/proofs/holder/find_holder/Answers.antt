-- `find_holder` meets its contract.
use Rattle.live.proofs.holder.find_holder.Goals as goal

pub loop-i-init : goal.loop-i-init
loop-i-init c = let q = c.requires in (q.1, q.0)

pub loop-i-preserved : goal.loop-i-preserved
loop-i-preserved c = let i = c.loop-i.invariant in (i.0, i.1)
