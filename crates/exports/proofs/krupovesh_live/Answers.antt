-- `krupovesh_live` meets its contract: the number of the answer that the call gave.
use Rattle.exports.specs.Packed.{packs}
use Rattle.exports.proofs.Values.{fits, live_short}
use Rattle.exports.proofs.krupovesh_live.Goals as goal

pub pack_live-requires : goal.pack_live-requires
pack_live-requires c = fits (live_short c.live.ensures)

pub returns : goal.returns
returns c = packs _ c.live.ensures c.pack_live.ensures
