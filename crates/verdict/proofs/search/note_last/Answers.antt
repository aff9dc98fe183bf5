-- `note_last` meets its contract.
use Rattle.bits.proofs.Putting.{put_first, put_turn, put_last}
use Rattle.verdict.proofs.search.note_last.Goals as goal

pub loop-x-init : goal.loop-x-init
loop-x-init c = put_first _ _ _

pub bounds-last-x : goal.bounds-last-x
bounds-last-x c = c.in-Some.ensures.steps.size

pub loop-x-preserved : goal.loop-x-preserved
loop-x-preserved c = put_turn c.loop-x.invariant c.in-Some.ensures.steps

pub returns : goal.returns
returns c =
    let put = put_last c.loop-x.invariant c.in-None.ensures.steps in
    record { size = put.size; each = rw (c.into_iter-x-iterator.ensures.into_iter_gives, c.from.ensures) at (put.each c.requires.0) }
