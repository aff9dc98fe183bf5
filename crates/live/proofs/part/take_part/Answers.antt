-- `take_part` meets its contract.
use mathlib.Core.Path.{refl, sym, ◌∙◌}
use native.Mathlib.Omega.{arith}
use Rattle.live.proofs.PartLaws.{taking_none, taking_more, taking_all}
use Rattle.live.proofs.part.take_part.Goals as goal

pub loop-i-init : goal.loop-i-init
loop-i-init c = let p = c.requires in taking_none _ _ p.0 p.1 p.2

pub overflow_mul-a : goal.overflow_mul-a
overflow_mul-a c = let i = c.loop-i.invariant in omega (arith, i.whole, i.size, i.far)

pub offset_bounds-part-a : goal.offset_bounds-part-a
offset_bounds-part-a c = let i = c.loop-i.invariant in omega (arith, i.whole, i.size, i.far)

pub bounds-part-a : goal.bounds-part-a
bounds-part-a c = let i = c.loop-i.invariant in omega (arith, i.whole, i.size, i.far)

pub overflow_add-a : goal.overflow_add-a
overflow_add-a c = let i = c.loop-i.invariant in omega (arith, i.whole, i.size, i.far)

pub offset_bounds-part-a-in-loop-i : goal.offset_bounds-part-a-in-loop-i
offset_bounds-part-a-in-loop-i c = let i = c.loop-i.invariant in omega (arith, i.whole, i.size, i.far)

pub bounds-part-a-in-loop-i : goal.bounds-part-a-in-loop-i
bounds-part-a-in-loop-i c = let i = c.loop-i.invariant in omega (arith, i.whole, i.size, i.far)

pub overflow_add-a-in-loop-i : goal.overflow_add-a-in-loop-i
overflow_add-a-in-loop-i c = let i = c.loop-i.invariant in omega (arith, i.whole, i.size, i.far)

pub offset_bounds-part-a-in-loop-i-2 : goal.offset_bounds-part-a-in-loop-i-2
offset_bounds-part-a-in-loop-i-2 c = let i = c.loop-i.invariant in omega (arith, i.whole, i.size, i.far)

pub bounds-part-a-in-loop-i-2 : goal.bounds-part-a-in-loop-i-2
bounds-part-a-in-loop-i-2 c = let i = c.loop-i.invariant in omega (arith, i.whole, i.size, i.far)

pub overflow_add-a-in-loop-i-2 : goal.overflow_add-a-in-loop-i-2
overflow_add-a-in-loop-i-2 c = let i = c.loop-i.invariant in omega (arith, i.whole, i.size, i.far)

pub offset_bounds-part-a-in-loop-i-3 : goal.offset_bounds-part-a-in-loop-i-3
offset_bounds-part-a-in-loop-i-3 c = let i = c.loop-i.invariant in omega (arith, i.whole, i.size, i.far)

pub bounds-part-a-in-loop-i-3 : goal.bounds-part-a-in-loop-i-3
bounds-part-a-in-loop-i-3 c = let i = c.loop-i.invariant in omega (arith, i.whole, i.size, i.far)

pub take-told-requires : goal.take-told-requires
take-told-requires c = let i = c.loop-i.invariant in (i.sized, i.room)

pub offset_bounds-answers-i : goal.offset_bounds-answers-i
offset_bounds-answers-i c = let i = c.loop-i.invariant in omega (arith, i.whole, i.size, i.far)

pub bounds-answers-i : goal.bounds-answers-i
bounds-answers-i c = let i = c.loop-i.invariant in omega (arith, i.whole, i.size, i.far)

pub loop-i-preserved : goal.loop-i-preserved
loop-i-preserved c =
    taking_more c.loop-i.invariant (omega (arith, c.loop-i.invariant.size, c.loop-i-test.true)) refl refl refl refl refl c.take-told.ensures c.number_of.ensures

pub shape_of-opened : goal.shape_of-opened
shape_of-opened c = c.loop-i.invariant.sized.opened ∙ sym c.requires.0.opened

pub shape_of-rows : goal.shape_of-rows
shape_of-rows c = c.loop-i.invariant.sized.rows ∙ sym c.requires.0.rows

pub shape_of-marks : goal.shape_of-marks
shape_of-marks c = c.loop-i.invariant.sized.marks ∙ sym c.requires.0.marks

pub shape_of-edges : goal.shape_of-edges
shape_of-edges c = c.loop-i.invariant.sized.edges ∙ sym c.requires.0.edges

pub shape_of-answers : goal.shape_of-answers
shape_of-answers c = c.loop-i.invariant.size

pub returns : goal.returns
returns c = taking_all c.loop-i.invariant (omega (arith, c.loop-i.invariant.size)) _ refl
