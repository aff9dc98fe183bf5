-- `krupovesh_accepts` meets its contract: the number of the answer that the call gave.
use Rattle.exports.specs.Packed.{packs}
use Rattle.exports.proofs.Values.{fits, accepts_short}
use Rattle.exports.proofs.krupovesh_accepts.Goals as goal

pub pack_accepts-requires : goal.pack_accepts-requires
pack_accepts-requires c = fits (accepts_short _ _ _ c.accepts.ensures)

pub returns : goal.returns
returns c = packs _ c.accepts.ensures c.pack_accepts.ensures
