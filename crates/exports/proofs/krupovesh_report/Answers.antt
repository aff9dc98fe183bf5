-- `krupovesh_report` meets its contract: the number of the answer that the call gave.
use Rattle.exports.specs.Packed.{packs}
use Rattle.exports.proofs.Values.{fits, report_short}
use Rattle.exports.proofs.krupovesh_report.Goals as goal

pub pack_count-requires : goal.pack_count-requires
pack_count-requires c = fits (report_short _ c.report.ensures)

pub returns : goal.returns
returns c = packs _ c.report.ensures c.pack_count.ensures
