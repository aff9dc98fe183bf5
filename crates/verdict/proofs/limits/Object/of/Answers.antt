-- `of` meets its contract.
use mathlib.Core.Path.{sym}
use native.Mathlib.Omega.{arith}
use Rattle.words.proofs.Truth.{→below, →not_below, provided_true, provided_false}
use Rattle.verdict.specs.Limits.{make_object}
use Rattle.verdict.proofs.limits.Object.of.Goals as goal

-- src/lib.rt:52:13
pub returns-then-number-lt-LIMIT : goal.returns-then-number-lt-LIMIT
unfolding make_object
returns-then-number-lt-LIMIT c = sym (provided_true _ _ (→below (omega arith)))

-- src/lib.rt:48:5
pub returns : goal.returns
unfolding make_object
returns c = sym (provided_false _ _ (→not_below (omega arith)))
