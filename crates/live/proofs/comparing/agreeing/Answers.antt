-- `agreeing` meets its contract.
use mathlib.Core.Path.{sym, ◌∙◌}
use Rattle.words.proofs.Truth.{→is, →isnt, provided_true, provided_false}
use Rattle.live.proofs.comparing.agreeing.Goals as goal

pub returns-then-a-b : goal.returns-then-a-b
returns-then-a-b c = sym (provided_true _ _ (→is c.if-a-b.true))

pub returns : goal.returns
returns c = c.without_mark.ensures ∙ sym (provided_false _ _ (→isnt c.if-a-b.false))
