-- `minus` meets its contract.
use Rattle.bits.proofs.Marks.{mark_without}
use Rattle.bits.proofs.minus.Goals as goal

pub returns : goal.returns
returns c = λ x. mark_without 64 c.args.a c.args.other x c.ranges.a.fits c.ranges.other.fits
