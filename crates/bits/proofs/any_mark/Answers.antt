-- `any_mark` meets its contract.
use Rattle.bits.proofs.Marks.{any_mark}
use Rattle.bits.proofs.any_mark.Goals as goal

pub returns : goal.returns
returns c = any_mark c.args.m c.ranges.m.fits
