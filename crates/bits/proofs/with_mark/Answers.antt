-- `with_mark` meets its contract.
use mathlib.Core.Path.{sym, ◌∙◌}
use Rattle.words.proofs.Truth.{→below, →not_below, provided_true, provided_false}
use Rattle.bits.proofs.Marks.{adds}
use Rattle.bits.proofs.with_mark.Goals as goal

pub returns-then-x-lt64 : goal.returns-then-x-lt64
returns-then-x-lt64 c =
    adds c.args.m c.args.x c.ranges.m.fits c.if-x-lt64.true ∙ sym (provided_true _ _ (→below c.if-x-lt64.true))

pub returns : goal.returns
returns c = sym (provided_false _ _ (→not_below c.if-x-lt64.false))
