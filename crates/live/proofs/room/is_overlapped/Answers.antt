-- `is_overlapped` meets its contract.
use mathlib.Core.Path.{refl}
use Rattle.words.specs.Tests.{◌upto◌}
use Rattle.live.proofs.RoomSteps.{nobody_open, somebody_open}
use Rattle.live.proofs.room.is_overlapped.Goals as goal

pub returns-then-least-eq0 : goal.returns-then-least-eq0
returns-then-least-eq0 c = nobody_open _ _ _ c.if-least-eq0.true

pub returns : goal.returns
returns c = somebody_open _ _ _ c.if-least-eq0.false c.until.ensures (unfold ◌upto◌ in refl)
