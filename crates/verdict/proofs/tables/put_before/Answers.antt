-- `put_before` meets its contract.
use Rattle.std.proofs.Common.{arith}
use Rattle.verdict.proofs.NextWriters.{put_none, put_more, put_all}
use Rattle.verdict.proofs.tables.put_before.Goals as goal

pub loop-x-init : goal.loop-x-init
loop-x-init c = rw c.into_iter-x-iterator.ensures.into_iter_gives (put_none _ _ _)

pub overflow_add-table : goal.overflow_add-table
overflow_add-table c = omega (arith, c.in-Some.ensures.steps.size, c.requires.2)

pub bounds-table-row : goal.bounds-table-row
bounds-table-row c = omega (arith, c.in-Some.ensures.steps.size, c.requires.2)

pub bounds-table-x : goal.bounds-table-x
bounds-table-x c = omega (arith, c.in-Some.ensures.steps.size)

pub bounds-table-x-in-loop-x : goal.bounds-table-x-in-loop-x
bounds-table-x-in-loop-x c = omega (arith, c.in-Some.ensures.steps.size)

pub loop-x-preserved : goal.loop-x-preserved
loop-x-preserved c =
    let q = c.requires in
    let t = c.in-Some.ensures.steps in
    rw t.after (put_more c.loop-x.invariant _ t.size t.mark (q.1, q.2) q.0)

pub returns : goal.returns
returns c = put_all c.loop-x.invariant c.in-None.ensures.steps
