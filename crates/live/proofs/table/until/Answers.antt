-- `until` meets its contract.
use Rattle.live.proofs.Cells.{until_is}
use Rattle.live.proofs.table.until.Goals as goal

pub returns : goal.returns
returns c = until_is _ _
