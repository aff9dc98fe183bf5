-- `is_header` meets its contract: a header that is found is one by itself where nothing stands behind it.
use Rattle.std.proofs.Common.{arith}
use Rattle.text.specs.Bytes.{bytes}
use Rattle.text.specs.Line.{header}
use Rattle.text.proofs.Forms.{line_end_apart}
use Rattle.text.proofs.OneLines.{header_by_end, not_header}
use Rattle.text.proofs.one_line.is_header.Goals as goal

pub item_at-requires : goal.item_at-requires
item_at-requires c = (omega arith, line_end_apart)

pub returns-in-None : goal.returns-in-None
unfolding header bytes
returns-in-None c = not_header _ c.in-None.ensures

pub returns-in-Some : goal.returns-in-Some
unfolding header bytes
returns-in-Some c = header_by_end _ _ _ c.in-Some.ensures
