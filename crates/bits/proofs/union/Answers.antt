-- `union` meets its contract.
use Rattle.bits.proofs.Marks.{mark_or}
use Rattle.bits.proofs.union.Goals as goal

pub returns : goal.returns
returns c = mark_or c.args.a c.args.other
