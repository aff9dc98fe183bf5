-- `breaches` meets its contract.
use mathlib.Core.Path.{sym, ◌∙◌}
use Rattle.words.proofs.Truth.{→is, →isnt, →or_left, or_false}
use Rattle.live.specs.Inner.Took.{rows_breach}
use Rattle.live.proofs.Comparisons.{differs_found}
use Rattle.live.proofs.step.breaches.Goals as goal

pub returns-then-status-eq-WRONG : goal.returns-then-status-eq-WRONG
unfolding rows_breach
returns-then-status-eq-WRONG c = sym (→or_left _ (→is (sym c.status.ensures ∙ c.if-status-eq-WRONG.true)))

pub returns : goal.returns
unfolding rows_breach
returns c =
    differs_found _ _ _ _ _ c.writes-written.ensures c.alike-same.ensures c.minus.ensures c.any_mark.ensures
    ∙ sym (or_false (→isnt (λ e. c.if-status-eq-WRONG.false (c.status.ensures ∙ e))))
