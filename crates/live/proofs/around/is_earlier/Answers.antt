-- `is_earlier` meets its contract.
use mathlib.Core.Path.{refl}
use Rattle.words.specs.Tests.{◌below◌}
use Rattle.live.specs.Inner.Around.{earlier}
use Rattle.live.proofs.around.is_earlier.Goals as goal

pub returns : goal.returns
unfolding earlier ◌below◌
returns c = rw (c.until.ensures, c.name.ensures) refl
