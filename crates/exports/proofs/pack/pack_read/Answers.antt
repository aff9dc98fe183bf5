-- `pack_read` meets its contract: each case has its number.
use Rattle.exports.specs.Packed.{read_numbers}
use Rattle.exports.proofs.Values.{known_small, known_packed}
use Rattle.exports.proofs.pack.pack_read.Goals as goal

pub pack-requires : goal.pack-requires
unfolding read_numbers
pack-requires c = known_small (read_numbers _) c.in-Store.is c.requires

pub pack-requires-in-Committed : goal.pack-requires-in-Committed
unfolding read_numbers
pack-requires-in-Committed c = rw c.from.ensures (known_small (read_numbers _) c.in-Committed.is c.requires)

pub pack-requires-in-Reader : goal.pack-requires-in-Reader
unfolding read_numbers
pack-requires-in-Reader c = rw c.from-in-Reader.ensures (known_small (read_numbers _) c.in-Reader.is c.requires)

pub returns-in-Store : goal.returns-in-Store
unfolding read_numbers
returns-in-Store c = known_packed (read_numbers _) c.in-Store.is c.pack.ensures

pub returns-in-Committed : goal.returns-in-Committed
unfolding read_numbers
returns-in-Committed c = known_packed (read_numbers _) c.in-Committed.is (rw c.from.ensures at c.pack-in-Committed.ensures)

pub returns-in-Reader : goal.returns-in-Reader
unfolding read_numbers
returns-in-Reader c = known_packed (read_numbers _) c.in-Reader.is (rw c.from-in-Reader.ensures at c.pack-in-Reader.ensures)
