-- `krupovesh_exact` meets its contract: the number of the answer that the call gave.
use Rattle.exports.specs.Packed.{packs}
use Rattle.exports.proofs.Values.{fits, exact_short}
use Rattle.exports.proofs.krupovesh_exact.Goals as goal

pub pack_witness-requires : goal.pack_witness-requires
pack_witness-requires c = fits (exact_short _ _ _ c.exact.ensures)

pub returns : goal.returns
returns c = packs _ c.exact.ensures c.pack_witness.ensures
