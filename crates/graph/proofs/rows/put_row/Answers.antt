-- `put_row` meets its contract.
use Rattle.graph.proofs.RowLaws.{row_put}
use Rattle.graph.proofs.rows.put_row.Goals as goal

pub returns : goal.returns
returns c = row_put _ _ _ c.requires.0 c.requires.1 c.requires.2
