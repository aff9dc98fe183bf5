-- `without_mark` meets its contract.
use mathlib.Core.Path.{sym}
use Rattle.bits.proofs.Marks.{less_past, drops}
use Rattle.bits.proofs.without_mark.Goals as goal

pub returns-then-x-ge64 : goal.returns-then-x-ge64
returns-then-x-ge64 c = sym (less_past c.args.m c.args.x c.ranges.m.fits c.if-x-ge64.true)

pub returns : goal.returns
returns c = drops c.args.m c.args.x c.ranges.m.fits c.if-x-ge64.false
