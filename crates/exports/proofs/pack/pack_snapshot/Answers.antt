-- `pack_snapshot` meets its contract: each case has its number.
use Rattle.std.specs.Prelude.{Ok}
use Rattle.std.proofs.Common.{ap, ◌∙◌}
use Rattle.exports.specs.Packed.{snapshot_numbers}
use Rattle.exports.proofs.Values.{known_small, known_packed}
use Rattle.exports.proofs.pack.pack_snapshot.Goals as goal

pub pack_refused-requires : goal.pack_refused-requires
unfolding snapshot_numbers
pack_refused-requires c = known_small snapshot_numbers c.in-Err.is c.requires

pub pack-requires : goal.pack-requires
unfolding snapshot_numbers
pack-requires c = known_small snapshot_numbers (c.in-Ok.is ∙ ap Ok c.in-Yes.is) c.requires

pub pack_read-requires : goal.pack_read-requires
unfolding snapshot_numbers
pack_read-requires c = known_small snapshot_numbers (c.in-Ok.is ∙ ap Ok c.in-Read.is) c.requires

pub pack-requires-in-Write : goal.pack-requires-in-Write
unfolding snapshot_numbers
pack-requires-in-Write c = rw c.from.ensures (known_small snapshot_numbers (c.in-Ok.is ∙ ap Ok c.in-Write.is) c.requires)

pub returns-in-Err : goal.returns-in-Err
unfolding snapshot_numbers
returns-in-Err c = known_packed snapshot_numbers c.in-Err.is c.pack_refused.ensures

pub returns-in-Yes : goal.returns-in-Yes
unfolding snapshot_numbers
returns-in-Yes c = known_packed snapshot_numbers (c.in-Ok.is ∙ ap Ok c.in-Yes.is) c.pack.ensures

pub returns-in-Read : goal.returns-in-Read
unfolding snapshot_numbers
returns-in-Read c = known_packed snapshot_numbers (c.in-Ok.is ∙ ap Ok c.in-Read.is) c.pack_read.ensures

pub returns-in-Write : goal.returns-in-Write
unfolding snapshot_numbers
returns-in-Write c = known_packed snapshot_numbers (c.in-Ok.is ∙ ap Ok c.in-Write.is) (rw c.from.ensures at c.pack-in-Write.ensures)
