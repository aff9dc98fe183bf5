-- `krupovesh_conflict` meets its contract: the number of the answer that the call gave.
use Rattle.exports.specs.Packed.{packs}
use Rattle.exports.proofs.Values.{fits, conflict_short}
use Rattle.exports.proofs.krupovesh_conflict.Goals as goal

pub pack_witness-requires : goal.pack_witness-requires
pack_witness-requires c = fits (conflict_short _ _ _ c.conflict.ensures)

pub returns : goal.returns
returns c = packs _ c.conflict.ensures c.pack_witness.ensures
