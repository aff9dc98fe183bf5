-- `is_before` meets its contract.
use mathlib.Core.Path.{sym, ◌∙◌}
use Rattle.words.proofs.Truth.{→is, →isnt, and_no_left, and_true, →and, →or_left, or_false}
use Rattle.live.specs.Inner.Around.{into_place}
use Rattle.live.proofs.around.is_before.Goals as goal

pub returns-then-status-ne-DONE : goal.returns-then-status-ne-DONE
unfolding into_place
returns-then-status-ne-DONE c = sym (and_no_left _ (→isnt (λ e. c.if-status-ne-DONE.true (c.status.ensures ∙ e))))

pub returns-then-does_touch : goal.returns-then-does_touch
unfolding into_place
returns-then-does_touch c = sym (→and (→is (sym c.status.ensures ∙ c.if-status-ne-DONE.false)) (→or_left _ (sym c.does_touch.ensures ∙ c.if-does_touch.true)))

pub returns-then-does_read : goal.returns-then-does_read
unfolding into_place
returns-then-does_read c =
    c.is_earlier.ensures ∙ sym (and_true (→is (sym c.status.ensures ∙ c.if-status-ne-DONE.false)) ∙ or_false (sym c.does_touch.ensures ∙ c.if-does_touch.false) ∙ and_true (sym c.does_read.ensures ∙ c.if-does_read.true))

pub returns : goal.returns
unfolding into_place
returns c =
    sym (and_true (→is (sym c.status.ensures ∙ c.if-status-ne-DONE.false)) ∙ or_false (sym c.does_touch.ensures ∙ c.if-does_touch.false) ∙ and_no_left _ (sym c.does_read.ensures ∙ c.if-does_read.false))
