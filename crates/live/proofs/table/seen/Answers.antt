-- `seen` meets its contract.
use Rattle.live.proofs.Cells.{sees_is}
use Rattle.live.proofs.table.seen.Goals as goal

pub returns : goal.returns
returns c = sees_is _ _ _
