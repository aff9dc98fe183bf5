-- `krupovesh_clean` meets its contract: the number of the answer that the call gave.
use Rattle.exports.specs.Packed.{packs}
use Rattle.exports.proofs.Values.{fits, clean_short}
use Rattle.exports.proofs.krupovesh_clean.Goals as goal

pub pack_clean-requires : goal.pack_clean-requires
pack_clean-requires c = fits (clean_short _ _ c.clean.ensures)

pub returns : goal.returns
returns c = packs _ c.clean.ensures c.pack_clean.ensures
