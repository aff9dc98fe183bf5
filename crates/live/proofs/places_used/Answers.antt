-- `places_used` meets its contract.
use mathlib.Core.Path.{sym}
use Rattle.words.proofs.Truth.{→upto, →not_upto, provided_true, provided_false}
use Rattle.live.proofs.places_used.Goals as goal

pub returns-then-count-le128 : goal.returns-then-count-le128
returns-then-count-le128 c = sym (provided_true _ _ (→upto c.if-count-le128.true))

pub returns : goal.returns
returns c = sym (provided_false _ _ (→not_upto c.if-count-le128.false))
