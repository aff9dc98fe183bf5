-- `pack_live` meets its contract: each case has its number.
use Rattle.exports.specs.Packed.{live_numbers}
use Rattle.exports.proofs.Values.{known_small, known_packed}
use Rattle.exports.proofs.pack.pack_live.Goals as goal

pub pack_refused-requires : goal.pack_refused-requires
unfolding live_numbers
pack_refused-requires c = known_small live_numbers c.in-Err.is c.requires

pub pack-requires : goal.pack-requires
unfolding live_numbers
pack-requires c = known_small live_numbers c.in-Ok.is c.requires

pub returns-in-Err : goal.returns-in-Err
unfolding live_numbers
returns-in-Err c = known_packed live_numbers c.in-Err.is c.pack_refused.ensures

pub returns-in-Ok : goal.returns-in-Ok
unfolding live_numbers
returns-in-Ok c = known_packed live_numbers c.in-Ok.is c.pack.ensures
