-- `watch` meets its contract.
use Rattle.live.proofs.RoomSteps.{watched}
use Rattle.live.proofs.holder.watch.Goals as goal

pub returns : goal.returns
returns c = let p = c.requires in watched _ _ _ _ p.1 c.lowest_until-bar.ensures
