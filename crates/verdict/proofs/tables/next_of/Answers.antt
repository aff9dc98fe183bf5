-- `next_of` meets its contract.
use Rattle.verdict.proofs.tables.next_of.Goals as goal

pub returns : goal.returns
returns c = rw (← c.from-row.ensures, ← c.from-column.ensures) c.from.ensures
