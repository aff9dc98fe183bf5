-- `is_after` meets its contract.
use mathlib.Core.Path.{sym, ◌∙◌}
use Rattle.words.proofs.Truth.{→is, →isnt, and_no_left, and_no_right, and_true, and_true_right, →fails, →not_fails}
use Rattle.live.specs.Inner.Around.{out_of_place}
use Rattle.live.proofs.around.is_after.Goals as goal

pub returns-then-status-ne-DONE : goal.returns-then-status-ne-DONE
unfolding out_of_place
returns-then-status-ne-DONE c = sym (and_no_left _ (→isnt (λ e. c.if-status-ne-DONE.true (c.status.ensures ∙ e))))

pub returns-then-is_earlier : goal.returns-then-is_earlier
unfolding out_of_place
returns-then-is_earlier c = sym (and_no_right _ (and_no_right _ (→not_fails (sym c.is_earlier.ensures ∙ c.if-is_earlier.true))))

pub returns : goal.returns
unfolding out_of_place
returns c =
    c.does_read.ensures ∙ sym (and_true (→is (sym c.status.ensures ∙ c.if-status-ne-DONE.false)) ∙ and_true_right _ (→fails (sym c.is_earlier.ensures ∙ c.if-is_earlier.false)))
