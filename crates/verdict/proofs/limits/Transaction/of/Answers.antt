-- `of` meets its contract.
use mathlib.Core.Path.{sym}
use native.Mathlib.Omega.{arith}
use Rattle.words.proofs.Truth.{→and, and_no_left, and_no_right, →upto, →not_upto, provided_true, provided_false}
use Rattle.verdict.specs.Limits.{make_transaction}
use Rattle.verdict.proofs.limits.Transaction.of.Goals as goal

-- src/lib.rt:24:13
pub returns-then-number-lt1 : goal.returns-then-number-lt1
unfolding make_transaction
returns-then-number-lt1 c = sym (provided_false _ _ (and_no_left _ (→not_upto (omega arith))))

-- src/lib.rt:27:13
pub returns-then-number-gt-LIMIT : goal.returns-then-number-gt-LIMIT
unfolding make_transaction
returns-then-number-gt-LIMIT c = sym (provided_false _ _ (and_no_right _ (→not_upto (omega arith))))

-- src/lib.rt:20:5
pub returns : goal.returns
unfolding make_transaction
returns c = sym (provided_true _ _ (→and (→upto (omega arith)) (→upto (omega arith))))
