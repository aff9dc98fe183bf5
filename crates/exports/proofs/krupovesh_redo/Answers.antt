-- `krupovesh_redo` meets its contract: the number of the answer that the call gave.
use Rattle.exports.specs.Packed.{packs}
use Rattle.exports.proofs.Values.{fits, redo_short}
use Rattle.exports.proofs.krupovesh_redo.Goals as goal

pub pack_count-requires : goal.pack_count-requires
pack_count-requires c = fits (redo_short _ _ _ c.redo.ensures)

pub returns : goal.returns
returns c = packs _ c.redo.ensures c.pack_count.ensures
