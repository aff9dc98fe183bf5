-- `number_if` meets its contract.
use mathlib.Core.Path.{sym, ◌∙◌}
use Rattle.words.proofs.Truth.{provided_true, provided_false}
use Rattle.verdict.specs.Inner.Reasons.{no_reason, number_if}
use Rattle.verdict.proofs.reasons.number_if.Goals as goal

pub returns-then-fits : goal.returns-then-fits
unfolding number_if
returns-then-fits c = c.reason_number.ensures ∙ sym (provided_true _ no_reason c.if-fits.true)

pub returns : goal.returns
unfolding number_if
returns c = sym (provided_false _ no_reason c.if-fits.false)
