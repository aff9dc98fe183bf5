-- `krupovesh_version` meets its contract: the number of the answer that the call gave.
use Rattle.exports.specs.Packed.{packs}
use Rattle.exports.proofs.Values.{fits, version_short}
use Rattle.exports.proofs.krupovesh_version.Goals as goal

pub pack_witness-requires : goal.pack_witness-requires
pack_witness-requires c = fits (version_short _ _ _ c.version.ensures)

pub returns : goal.returns
returns c = packs _ c.version.ensures c.pack_witness.ensures
