-- `read_steps` meets its contract: the pass says which refusal applies, or the steps, which are then copied.
use Rattle.std.proofs.Common.{arith}
use Rattle.words.specs.Lists.{zeros}
use Rattle.text.proofs.Calls.{a_bad_line, extra_bytes, all_read}
use Rattle.text.proofs.read_steps.Goals as goal

pub overflow_add-result : goal.overflow_add-result
unfolding zeros
overflow_add-result c = omega (arith, c.in-Err.ensures.2)

pub returns-then-end-text : goal.returns-then-end-text
unfolding zeros
returns-then-end-text c =
    extra_bytes c.args.text.now c.args.at c.args.n c.requires.1 c.requires.2 c.args.steps.now _ _ _ c.in-Ok.ensures c.if-end-text.true

pub returns-in-Err : goal.returns-in-Err
unfolding zeros
returns-in-Err c =
    a_bad_line c.args.text.now c.args.at c.args.n c.requires.1 c.requires.2 c.args.steps.now _ c.in-Err.ensures

pub returns-else-end-text : goal.returns-else-end-text
unfolding zeros
returns-else-end-text c =
    all_read c.args.text.now c.args.at c.args.n c.requires.1 c.requires.2 c.args.steps.now _ c.in-Ok.ensures c.if-end-text.false c.copy_from_slice.ensures.after
