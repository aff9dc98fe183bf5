-- `read_line` meets its contract: it is a header; else its step, where nothing stands behind that; else neither.
use Rattle.text.specs.OneLine.{header_line}
use Rattle.text.proofs.OneLines.{header_told, no_header_told, all_step, step_and_more, not_step}
use Rattle.text.proofs.one_line.read_line.Goals as goal

pub returns-then-is_header : goal.returns-then-is_header
returns-then-is_header c = header_line (header_told _ c.is_header.ensures c.if-is_header.true)

pub returns-in_default : goal.returns-in_default
returns-in_default c = not_step _ c.in_default.ensures (no_header_told _ c.is_header.ensures c.if-is_header.false)

pub returns-then-end-bytes : goal.returns-then-end-bytes
returns-then-end-bytes c =
    step_and_more _ _ _ c.in-Some.ensures c.if-end-bytes.true (no_header_told _ c.is_header.ensures c.if-is_header.false)

pub returns : goal.returns
returns c = all_step _ _ _ c.in-Some.ensures c.if-end-bytes.false
