-- `reads` meets its contract.
use Rattle.live.proofs.Cells.{reads_is}
use Rattle.live.proofs.table.reads.Goals as goal

pub returns : goal.returns
returns c = reads_is _ _
