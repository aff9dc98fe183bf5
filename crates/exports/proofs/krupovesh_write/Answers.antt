-- `krupovesh_write` meets its contract: the number of the answer that the call gave.
use Rattle.exports.specs.Packed.{packs}
use Rattle.exports.proofs.Values.{fits, write_short}
use Rattle.exports.proofs.krupovesh_write.Goals as goal

pub pack_count-requires : goal.pack_count-requires
pack_count-requires c = fits (write_short _ _ c.write.ensures)

pub returns : goal.returns
returns c = packs _ c.write.ensures c.pack_count.ensures
