-- `writes` meets its contract.
use Rattle.live.proofs.Cells.{writes_is}
use Rattle.live.proofs.table.writes.Goals as goal

pub returns : goal.returns
returns c = writes_is _ _
