-- `offer` meets its contract.
use mathlib.Core.Path.{sym}
use Rattle.words.proofs.Truth.{→below, →not_below, provided_true, provided_false}
use Rattle.verdict.specs.Inner.Reasons.{offered}
use Rattle.verdict.proofs.reasons.offer.Goals as goal

pub returns-then-number-best : goal.returns-then-number-best
unfolding offered
returns-then-number-best c = let e = c.from-at.ensures in rw (e) (sym (provided_true _ _ (→below (rw e at c.if-number-best.true))))

pub returns-else-number-best : goal.returns-else-number-best
unfolding offered
returns-else-number-best c = let e = c.from-at.ensures in sym (provided_false _ _ (→not_below (rw e at c.if-number-best.false)))
