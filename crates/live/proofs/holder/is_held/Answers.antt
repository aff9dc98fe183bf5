-- `is_held` meets its contract.
use mathlib.Core.Bool.{false≢true}
use Rattle.words.specs.Tests.{◌upto◌}
use Rattle.live.proofs.PlaceLaws.{one_up}
use Rattle.live.proofs.RoomSteps.{holder_there}
use Rattle.live.proofs.holder.is_held.Goals as goal

pub returns-then-w-eq0 : goal.returns-then-w-eq0
returns-then-w-eq0 c = λ e. absurd (false≢true e)

pub returns-then-n-w : goal.returns-then-n-w
returns-then-n-w c = λ e. absurd (false≢true e)

pub returns-then-opened-w-eq0 : goal.returns-then-opened-w-eq0
returns-then-opened-w-eq0 c = λ e. absurd (false≢true e)

pub returns : goal.returns
unfolding ◌upto◌
returns c =
    holder_there _ _ (one_up c.if-w-eq0.false) c.if-n-w.false c.if-opened-w-eq0.false c.until.ensures
