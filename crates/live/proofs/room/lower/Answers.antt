-- `lower` meets its contract.
use mathlib.Core.Path.{sym, ◌∙◌}
use Rattle.words.proofs.Truth.{→is, →isnt, →below, →not_below, provided_true, provided_false}
use Rattle.live.proofs.room.lower.Goals as goal

pub returns-then-b-eq0 : goal.returns-then-b-eq0
returns-then-b-eq0 c = sym (provided_true _ _ (→is c.if-b-eq0.true))

pub returns-then-a-eq0 : goal.returns-then-a-eq0
returns-then-a-eq0 c = sym (provided_false _ _ (→isnt c.if-b-eq0.false) ∙ provided_true _ _ (→is c.if-a-eq0.true))

pub returns-then-b-a : goal.returns-then-b-a
returns-then-b-a c = sym (provided_false _ _ (→isnt c.if-b-eq0.false) ∙ provided_false _ _ (→isnt c.if-a-eq0.false) ∙ provided_true _ _ (→below c.if-b-a.true))

pub returns : goal.returns
returns c = sym (provided_false _ _ (→isnt c.if-b-eq0.false) ∙ provided_false _ _ (→isnt c.if-a-eq0.false) ∙ provided_false _ _ (→not_below c.if-b-a.false))
