-- `object_marked` meets its contract.
use Rattle.verdict.proofs.walk.object_marked.Goals as goal

pub returns : goal.returns
returns c = rw (c.from-at.ensures, c.from.ensures) at c.has_mark.ensures
