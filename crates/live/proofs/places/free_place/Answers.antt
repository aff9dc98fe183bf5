-- `free_place` meets its contract.
use mathlib.Core.Path.{sym, ◌∙◌}
use native.Mathlib.Omega.{arith}
use Rattle.live.proofs.PlaceLaws.{used_more}
use Rattle.live.proofs.places.free_place.Goals as goal

pub loop-p-init : goal.loop-p-init
loop-p-init c = let q = c.requires in (q.1, q.0, λ q l k. absurd (omega arith))

pub name-requires : goal.name-requires
name-requires c = (c.loop-p.invariant.1, omega arith)

pub returns-then-name-eq0 : goal.returns-then-name-eq0
returns-then-name-eq0 c = let i = c.loop-p.invariant in record { from_one = omega arith; bound = omega arith; free = λ _. sym c.name.ensures ∙ c.if-name-eq0.true; used = i.2 }

pub loop-p-preserved : goal.loop-p-preserved
loop-p-preserved c = let i = c.loop-p.invariant in (i.0, i.1, used_more _ c.loop-p.p c.name.ensures c.if-name-eq0.false i.2)

pub returns : goal.returns
returns c = let i = c.loop-p.invariant in record { from_one = omega arith; bound = omega arith; free = λ l. absurd (omega arith); used = λ q l k. i.2 q l (omega arith) }
