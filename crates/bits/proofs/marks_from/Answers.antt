-- `marks_from` meets its contract.
use Rattle.bits.proofs.Marks.{none_from, mark_from, power_above}
use Rattle.bits.proofs.marks_from.Goals as goal

pub returns-then-x-ge64 : goal.returns-then-x-ge64
returns-then-x-ge64 c = none_from c.args.m c.args.x c.ranges.m.fits c.if-x-ge64.true

pub overflow_sub-result : goal.overflow_sub-result
overflow_sub-result c = power_above c.args.x c.if-x-ge64.false

pub returns : goal.returns
returns c = mark_from c.args.m c.args.x c.ranges.m.fits c.if-x-ge64.false
