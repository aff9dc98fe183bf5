-- `lent_drop` meets its contract.
use Rattle.graph.proofs.RowLaws.{row_dropped}
use Rattle.graph.proofs.lent.lent_drop.Goals as goal

pub returns : goal.returns
returns c = let p = c.requires in row_dropped _ p.0 _ _ p.3 p.4 p.1 p.2 c.without_mark.ensures
