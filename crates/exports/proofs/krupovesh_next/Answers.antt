-- `krupovesh_next` meets its contract: the number of the answer that the call gave.
use Rattle.exports.specs.Packed.{packs}
use Rattle.exports.proofs.Values.{fits, next_short}
use Rattle.exports.proofs.krupovesh_next.Goals as goal

pub pack_witness-requires : goal.pack_witness-requires
pack_witness-requires c = fits (next_short _ _ _ _ c.next.ensures)

pub returns : goal.returns
returns c = packs _ c.next.ensures c.pack_witness.ensures
