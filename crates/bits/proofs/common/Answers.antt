-- `common` meets its contract.
use Rattle.bits.proofs.Marks.{mark_and}
use Rattle.bits.proofs.common.Goals as goal

pub returns : goal.returns
returns c = mark_and c.args.a c.args.other
