-- `name` meets its contract.
use Rattle.live.proofs.Cells.{name_is}
use Rattle.live.proofs.table.name.Goals as goal

pub returns : goal.returns
returns c = name_is _ _
