-- `forget` meets its contract.
use mathlib.Core.Path.{sym, ◌∙◌}
use Rattle.live.proofs.ForgetPasses.{going_none, pass_fewer, going_more, going_done}
use Rattle.live.proofs.room.forget.Goals as goal

pub least_open-least-requires : goal.least_open-least-requires
least_open-least-requires c = let p = c.requires in (p.0, p.3)

pub loop-again-init : goal.loop-again-init
loop-again-init c = let p = c.requires in (c.least_open-least.ensures, p.3, going_none _ _ _ _ _ p.1 p.2)

pub pass-again-requires : goal.pass-again-requires
pass-again-requires c = let i = c.loop-again.invariant in (i.2.size_rows, i.2.size_edges, i.1)

pub loop-again-smaller : goal.loop-again-smaller
loop-again-smaller c = pass_fewer (c.pass-again.ensures _ c.loop-again.invariant.0) c.loop-again-test.true

pub loop-again-preserved : goal.loop-again-preserved
loop-again-preserved c = let i = c.loop-again.invariant in (i.0, i.1, going_more (c.pass-again.ensures _ i.0) i.2)

pub shape_of-rows : goal.shape_of-rows
shape_of-rows c = c.loop-again.invariant.2.size_rows ∙ sym c.requires.1

pub shape_of-edges : goal.shape_of-edges
shape_of-edges c = c.loop-again.invariant.2.size_edges ∙ sym c.requires.2

pub returns : goal.returns
returns c = let i = c.loop-again.invariant in λ marks. going_done c.loop-again-test.false i.2 i.0 marks
