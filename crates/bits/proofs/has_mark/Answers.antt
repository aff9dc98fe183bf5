-- `has_mark` meets its contract.
use mathlib.Core.Path.{sym}
use Rattle.bits.proofs.Marks.{no_mark_past, read_mark}
use Rattle.bits.proofs.has_mark.Goals as goal

pub returns-then-x-ge64 : goal.returns-then-x-ge64
returns-then-x-ge64 c = sym (no_mark_past 64 c.args.m c.args.x c.ranges.m.fits c.if-x-ge64.true)

pub returns : goal.returns
returns c = read_mark _ _
