-- `any` meets its contract.
use mathlib.Core.Path.{sym, ◌∙◌}
use Rattle.graph.proofs.TwoWords.{any_low, any_high}
use Rattle.graph.proofs.sets.any.Goals as goal

pub returns-then-any_mark : goal.returns-then-any_mark
returns-then-any_mark c = sym (any_low _ (sym c.any_mark.ensures ∙ c.if-any_mark.true))

pub returns : goal.returns
returns c = c.any_mark-2.ensures ∙ any_high _ (sym c.any_mark.ensures ∙ c.if-any_mark.false)
