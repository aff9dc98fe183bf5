-- `search_place` meets its contract.
use Prim.Native.Nat.{◌-◌}
use native.Mathlib.Omega.{arith}
use Rattle.live.proofs.PlaceLaws.{open_is, passed_one}
use Rattle.live.proofs.places.search_place.Goals as goal

pub loop-p-init : goal.loop-p-init
loop-p-init c = let q = c.requires in (q.1, q.0, λ q l h e. absurd (omega arith))

pub returns-then-opened-p : goal.returns-then-opened-p
returns-then-opened-p c = ((omega arith, omega arith), open_is _ _ c.if-opened-p.true)

pub loop-p-preserved : goal.loop-p-preserved
loop-p-preserved c = let i = c.loop-p.invariant in (i.0, i.1, passed_one _ (c.loop-p.p - 1) (λ e. c.if-opened-p.false e) (λ q l h. i.2 q (omega arith) h))

pub returns : goal.returns
returns c = λ q u. c.loop-p.invariant.2 q (omega (arith, u.0)) u.1
