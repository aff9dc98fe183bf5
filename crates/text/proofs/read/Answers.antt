-- `read` meets its contract: 12 and 15 come before what the lines give.
use mathlib.Core.Path.{refl}
use Rattle.text.specs.ReadCall.{wrong_buffer, too_long}
use Rattle.text.proofs.Calls.{away, lines_decide}
use Rattle.text.proofs.read.Goals as goal

pub returns-then-steps : goal.returns-then-steps
returns-then-steps c =
    let b = c.args in
    away b.text.now b.steps.now 12 0 (wrong_buffer c.if-steps.true) refl

pub returns-then-text-gt-LIMIT : goal.returns-then-text-gt-LIMIT
returns-then-text-gt-LIMIT c =
    let b = c.args in
    away b.text.now b.steps.now 15 0 (too_long c.if-steps.false c.if-text-gt-LIMIT.true) refl

pub returns : goal.returns
returns c =
    lines_decide c.if-steps.false c.if-text-gt-LIMIT.false c.read_header.ensures
