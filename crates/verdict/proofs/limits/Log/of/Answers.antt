-- `of` meets its contract.
use mathlib.Core.Path.{sym}
use native.Mathlib.Omega.{arith}
use Rattle.words.proofs.Truth.{→upto, →not_upto, provided_true, provided_false}
use Rattle.verdict.specs.Limits.{make_log}
use Rattle.verdict.proofs.limits.Log.of.Goals as goal

-- src/lib.rt:77:13
pub returns-then-steps-le-LIMIT : goal.returns-then-steps-le-LIMIT
unfolding make_log
returns-then-steps-le-LIMIT c = sym (provided_true _ _ (→upto (omega arith)))

-- src/lib.rt:73:5
pub returns : goal.returns
unfolding make_log
returns c = sym (provided_false _ _ (→not_upto (omega arith)))
