-- `put_marked` meets its contract.
use Rattle.bits.proofs.Putting.{put_turn, put_last}
use Rattle.bits.proofs.table.put_marked.Goals as goal

pub loop-x-preserved : goal.loop-x-preserved
loop-x-preserved c = put_turn c.loop-x.invariant c.in-Some.ensures.steps

pub returns : goal.returns
returns c = put_last c.loop-x.invariant c.in-None.ensures.steps
