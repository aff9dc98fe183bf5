-- `read_header` meets its contract: 16 and 2 for the header come before what the other lines give.
use Rattle.std.proofs.Common.{refl, arith}
use Rattle.text.specs.Bytes.{bytes}
use Rattle.text.specs.Line.{header}
use Rattle.text.specs.Reading.{no_header, too_many}
use Rattle.text.proofs.Forms.{line_end_apart}
use Rattle.text.proofs.Calls.{away}
use Rattle.text.proofs.read_header.Goals as goal

pub item_at-requires : goal.item_at-requires
item_at-requires c = (omega arith, line_end_apart)

pub returns-in_default : goal.returns-in_default
unfolding header bytes
returns-in_default c =
    let a = c.args in
    away a.text.now a.steps.now 16 0 (no_header c.in_default.ensures) refl

pub returns-then-n-gt-LIMIT : goal.returns-then-n-gt-LIMIT
unfolding header bytes
returns-then-n-gt-LIMIT c =
    let h = c.in-Some.ensures in
    let a = c.args in
    away a.text.now a.steps.now 2 0 (too_many _ _ h.0 c.if-n-gt-LIMIT.true h.2) refl

pub read_steps-requires : goal.read_steps-requires
unfolding header bytes
read_steps-requires c =
    let h = c.in-Some.ensures in
    (h.1, h.2, c.if-n-gt-LIMIT.false, c.requires)
