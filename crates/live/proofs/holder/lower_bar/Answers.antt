-- `lower_bar` meets its contract.
use mathlib.Core.Path.{sym}
use Rattle.words.proofs.Truth.{→below, →not_below, provided_true, provided_false}
use Rattle.live.specs.Inner.Forgetting.{lowered}
use Rattle.live.proofs.holder.lower_bar.Goals as goal

pub returns-then-top-until : goal.returns-then-top-until
unfolding lowered
returns-then-top-until c = sym (provided_true _ _ (→below (rw c.until.ensures at c.if-top-until.true)))

pub returns-else-top-until : goal.returns-else-top-until
unfolding lowered
returns-else-top-until c = sym (provided_false _ _ (→not_below (rw c.until.ensures at c.if-top-until.false)))
