-- `in_range` meets its contract.
use mathlib.Core.Path.{sym, ◌∙◌}
use Rattle.words.proofs.Truth.{→and, and_no_left, and_no_right, →fails, →not_fails, →below, →not_below, →upto, →not_upto}
use Rattle.verdict.specs.Inner.Checking.{in_range}
use Rattle.verdict.proofs.Made.{made_transaction, no_transaction, made_object, no_object}
use Rattle.verdict.proofs.Refused.{when_yes, when_no, first_yes, first_no}
use Rattle.verdict.proofs.taking.in_range.Goals as goal

pub returns-in_default : goal.returns-in_default
unfolding in_range
returns-in_default c = sym (first_yes 4 _ _ (→fails (no_transaction _ c.of-transaction.ensures c.in_default.is)))

pub returns-in_default-object : goal.returns-in_default-object
unfolding in_range
returns-in_default-object c =
    sym (first_no 4 _ _ (→not_fails (made_transaction _ c.of-transaction.ensures c.in-Some.is))
    ∙ first_yes 5 _ _ (→fails (and_no_left _ (no_object _ c.of-object.ensures c.in_default-object.is))))

pub returns-then-asked-x : goal.returns-then-asked-x
unfolding in_range
returns-then-asked-x c =
    sym (first_no 4 _ _ (→not_fails (made_transaction _ c.of-transaction.ensures c.in-Some.is)) ∙ first_yes 5 _ _ (→fails (and_no_right _ (→not_below c.if-asked-x.true))))

pub returns-then-asked-s : goal.returns-then-asked-s
unfolding in_range
returns-then-asked-s c =
    let allowed = →and (made_object _ c.of-object.ensures c.in-Some-object.is) (→below c.if-asked-x.false) in
    sym (first_no 4 _ _ (→not_fails (made_transaction _ c.of-transaction.ensures c.in-Some.is)) ∙ first_no 5 _ _ (→not_fails allowed) ∙ when_yes 6 _ (→fails (→not_upto c.if-asked-s.true)))

pub returns : goal.returns
unfolding in_range
returns c =
    let allowed = →and (made_object _ c.of-object.ensures c.in-Some-object.is) (→below c.if-asked-x.false) in
    sym (first_no 4 _ _ (→not_fails (made_transaction _ c.of-transaction.ensures c.in-Some.is)) ∙ first_no 5 _ _ (→not_fails allowed) ∙ when_no 6 _ (→not_fails (→upto c.if-asked-s.false)))
