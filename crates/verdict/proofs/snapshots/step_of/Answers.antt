-- `step_of` meets its contract.
use Rattle.verdict.proofs.snapshots.step_of.Goals as goal

pub returns : goal.returns
returns c = rw c.from-at.ensures at c.from.ensures
