-- `without_members` meets its contract.
use mathlib.Core.Path.{refl}
use Rattle.words.specs.Lists.{zeros}
use Rattle.verdict.proofs.leaving.without_members.Goals as goal

pub returns : goal.returns
unfolding zeros
returns c = (refl, refl)
