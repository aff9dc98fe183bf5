-- `settle_all` meets its contract.
use Rattle.graph.proofs.Ready.{settled_all}
use Rattle.graph.proofs.order.settle_all.Goals as goal

pub loop-u-preserved : goal.loop-u-preserved
loop-u-preserved c = c.settle-then.ensures _ _ c.loop-u.invariant c.in-Some.ensures.steps

pub returns : goal.returns
returns c = settled_all c.loop-u.invariant c.in-None.ensures.steps
