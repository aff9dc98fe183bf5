-- `step_at` meets its contract.
use mathlib.Core.Path.{refl}
use Rattle.verdict.specs.Log.{kind, tx, obj, src}
use Rattle.verdict.proofs.step.step_at.Goals as goal

pub returns : goal.returns
unfolding kind tx obj src
returns c = record { kind_is = refl; tx_is = refl; obj_is = refl; src_is = refl }
