-- `pack_count` meets its contract: each case has its number.
use Rattle.exports.specs.Packed.{count_numbers}
use Rattle.exports.proofs.Values.{known_small, known_packed}
use Rattle.exports.proofs.pack.pack_count.Goals as goal

pub pack_refused-requires : goal.pack_refused-requires
unfolding count_numbers
pack_refused-requires c = known_small count_numbers c.in-Err.is c.requires

pub pack-requires : goal.pack-requires
unfolding count_numbers
pack-requires c = known_small count_numbers c.in-Ok.is c.requires

pub returns-in-Err : goal.returns-in-Err
unfolding count_numbers
returns-in-Err c = known_packed count_numbers c.in-Err.is c.pack_refused.ensures

pub returns-in-Ok : goal.returns-in-Ok
unfolding count_numbers
returns-in-Ok c = known_packed count_numbers c.in-Ok.is c.pack.ensures
