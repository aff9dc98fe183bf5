-- `status` meets its contract.
use Rattle.live.proofs.Cells.{status_is}
use Rattle.live.proofs.table.status.Goals as goal

pub returns : goal.returns
returns c = status_is _ _
