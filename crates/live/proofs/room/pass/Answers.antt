-- `pass` meets its contract.
use mathlib.Core.Path.{sym, ◌∙◌}
use native.Mathlib.Omega.{arith}
use Rattle.live.proofs.ForgetPasses.{looked_sizes, passing_none, passing_more, passing_done}
use Rattle.live.proofs.room.pass.Goals as goal

pub loop-p-init : goal.loop-p-init
loop-p-init c = let q = c.requires in (q.2, q.0, q.1, λ opened o. passing_none _ _ _ _ _ q.0 q.1)

pub look_at-gone-requires : goal.look_at-gone-requires
look_at-gone-requires c = let i = c.loop-p.invariant in (i.1, i.2, omega arith, omega (arith, i.0), i.0)

pub loop-p-preserved : goal.loop-p-preserved
loop-p-preserved c =
    let i = c.loop-p.invariant in
    let z = looked_sizes i.1 i.2 (omega (arith, i.0)) c.look_at-gone.ensures in (i.0, z.0, z.1, λ opened o. passing_more (i.3 opened o) o (omega arith) (omega arith) i.0 c.look_at-gone.ensures)

pub shape_of-rows : goal.shape_of-rows
shape_of-rows c = c.loop-p.invariant.1 ∙ sym c.requires.0

pub shape_of-edges : goal.shape_of-edges
shape_of-edges c = c.loop-p.invariant.2 ∙ sym c.requires.1

pub returns : goal.returns
returns c = let p = c.requires in λ opened o. passing_done p.0 p.1 (omega arith) (c.loop-p.invariant.3 opened o)
