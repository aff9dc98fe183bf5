-- `last_used` meets its contract.
use Prim.Native.Nat.{◌-◌}
use native.Mathlib.Omega.{arith}
use Rattle.live.proofs.PlaceLaws.{free_more}
use Rattle.live.proofs.room.last_used.Goals as goal

pub loop-p-init : goal.loop-p-init
loop-p-init c = let q = c.requires in (q.1, q.0, λ q l k. absurd (omega arith))

pub name-requires : goal.name-requires
name-requires c = (c.loop-p.invariant.1, omega arith)

pub returns-then-name-ne0 : goal.returns-then-name-ne0
returns-then-name-ne0 c = let i = c.loop-p.invariant in record { bound = omega arith; free = λ q l k. i.2 q (omega arith) k }

pub loop-p-preserved : goal.loop-p-preserved
loop-p-preserved c = let i = c.loop-p.invariant in (i.0, i.1, free_more _ (c.loop-p.p - 1) c.name.ensures c.if-name-ne0.false (λ q l k. i.2 q (omega arith) k))

pub returns : goal.returns
returns c = let i = c.loop-p.invariant in record { bound = omega arith; free = λ q l k. i.2 q (omega arith) k }
