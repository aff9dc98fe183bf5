-- `put_last` meets its contract.
use mathlib.Core.Path.{refl, ◌∙◌}
use native.Mathlib.Omega.{arith}
use Rattle.live.proofs.Notes.{putting_none, putting_more, putting_all}
use Rattle.live.proofs.noting.put_last.Goals as goal

pub loop-x-init : goal.loop-x-init
loop-x-init c = let q = c.requires in (q, q, rw c.into_iter-x-iterator.ensures.into_iter_gives (putting_none _ _ _))

pub overflow_add-rows : goal.overflow_add-rows
overflow_add-rows c = omega (arith, c.in-Some.ensures.steps.size)

pub offset_bounds-rows-x : goal.offset_bounds-rows-x
offset_bounds-rows-x c = omega (arith, c.in-Some.ensures.steps.size)

pub bounds-rows-x : goal.bounds-rows-x
bounds-rows-x c = omega (arith, c.in-Some.ensures.steps.size)

pub loop-x-preserved : goal.loop-x-preserved
loop-x-preserved c =
    let i = c.loop-x.invariant in
    let t = c.in-Some.ensures.steps in
    let n = putting_more i.2 _ _ t.size t.mark i.0 refl in
    rw t.after (i.0, n.size ∙ i.0, n)

pub shape_of-rows : goal.shape_of-rows
shape_of-rows c = c.loop-x.invariant.2.size

pub returns : goal.returns
returns c = putting_all c.loop-x.invariant.2 c.in-None.ensures.steps
