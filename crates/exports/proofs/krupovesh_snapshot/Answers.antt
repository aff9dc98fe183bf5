-- `krupovesh_snapshot` meets its contract: the number of the answer that the call gave.
use Rattle.exports.specs.Packed.{packs}
use Rattle.exports.proofs.Values.{fits, snapshot_short}
use Rattle.exports.proofs.krupovesh_snapshot.Goals as goal

pub pack_snapshot-requires : goal.pack_snapshot-requires
pack_snapshot-requires c = fits (snapshot_short _ _ c.snapshot.ensures)

pub returns : goal.returns
returns c = packs _ c.snapshot.ensures c.pack_snapshot.ensures
