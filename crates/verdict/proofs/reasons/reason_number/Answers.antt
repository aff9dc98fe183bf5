-- `reason_number` meets its contract.
use mathlib.Core.Path.{refl}
use Rattle.verdict.specs.Inner.Reasons.{reason_number}
use Rattle.verdict.proofs.reasons.reason_number.Goals as goal

pub returns : goal.returns
unfolding reason_number
returns c = refl
