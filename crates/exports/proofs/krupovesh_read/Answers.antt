-- `krupovesh_read` meets its contract: the number of the answer that the call gave.
use Rattle.exports.specs.Packed.{packs}
use Rattle.exports.proofs.Values.{fits, read_short}
use Rattle.exports.proofs.krupovesh_read.Goals as goal

pub pack_count-requires : goal.pack_count-requires
pack_count-requires c = fits (read_short c.read.ensures)

pub returns : goal.returns
returns c = packs _ c.read.ensures c.pack_count.ensures
