-- `closing` meets its contract.
use mathlib.Core.Path.{◌≡◌, sym, ◌∙◌}
use mathlib.Core.Bool.{true}
use Prim.Native.Nat.{ℕ, ◌+◌, ◌-◌}
use native.Mathlib.Omega.{arith}
use Rattle.words.proofs.Truth.{to_false}
use Rattle.graph.specs.Matrix.{takes_part, joined}
use Rattle.graph.proofs.Marks.{joined→, no_loop}
use Rattle.graph.proofs.Layers.{layered_none, layered_end, layered_out, layered_found, layered_more}
use Rattle.graph.proofs.cycle.closing.Goals.{Start}
use Rattle.graph.proofs.cycle.closing.Goals as goal

edges-from : (c : Start) (a b : ℕ) → joined 128 c.args.m.now c.args.part a b ≡ true → takes_part 128 c.args.part a ≡ true
edges-from c a b h = (joined→ 128 _ _ a b h).from

pub loop-d-init : goal.loop-d-init
loop-d-init c =
    layered_none (λ a b h. (joined→ 128 _ _ a b h).from) _ (to_false _ (no_loop 128 _ _ _)) _ _ _ _ _ c.requires.0 c.before-2.ensures c.above-higher.ensures c.common-front.ensures c.minus-rest.ensures

pub returns-then-not-any : goal.returns-then-not-any
returns-then-not-any c = layered_end (edges-from (goal.at.returns-then-not-any c).Start) c.loop-d.invariant _ c.requires.4 (sym c.any.ensures ∙ c.if-not-any.true)

pub returns-then-takes_part : goal.returns-then-takes_part
returns-then-takes_part c =
    let one : c.loop-d.d ≡ c.loop-d.d - 1 + 1 = omega arith in
    rw one (layered_found (edges-from (goal.at.returns-then-takes_part c).Start) c.loop-d.invariant c.args.limit c.requires.4 (omega arith) (rw one at c.put_row.ensures) _ c.gathered-back.ensures (sym c.takes_part.ensures ∙ c.if-takes_part.true))

pub loop-d-preserved : goal.loop-d-preserved
loop-d-preserved c =
    let one : c.loop-d.d ≡ c.loop-d.d - 1 + 1 = omega arith in
    let on : c.loop-d.d + 1 - 1 ≡ c.loop-d.d - 1 + 1 = omega arith in
    rw on (layered_more (edges-from (goal.at.loop-d-preserved c).Start) c.loop-d.invariant c.args.limit c.requires.4 (omega arith) (rw one at c.put_row.ensures) _ c.gathered-back.ensures (sym c.takes_part.ensures ∙ c.if-takes_part.false) _ _ c.common-next.ensures c.minus-fewer.ensures)

pub returns : goal.returns
returns c = layered_out (edges-from (goal.at.returns c).Start) c.loop-d.invariant _ c.requires.4 (omega arith)
