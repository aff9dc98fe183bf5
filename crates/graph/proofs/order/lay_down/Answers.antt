-- `lay_down` meets its contract.
use mathlib.Core.Path.{◌≡◌, refl, sym, ◌∙◌}
use Prim.Native.Nat.{◌≤◌, ◌<◌}
use native.Mathlib.Omega.{arith}
use lib.ListN.{length}
use borrow.Author.Rules.{rules}
use Rattle.words.specs.Tests.{◌upto◌, ◌and◌, lowest}
use Rattle.graph.specs.Inner.Peel.{may_begin}
use Rattle.graph.specs.Inner.Waiting.{nobody}
use Rattle.graph.proofs.Filled.{filled_none, filled_next, filled_more, filled_all}
use Rattle.graph.proofs.Ready.{settled_none, settled_placed, next_lowest, none_next, nobody_left}
use Rattle.graph.proofs.order.lay_down.Goals.{In-Some}
use Rattle.graph.proofs.order.lay_down.Goals as goal

-- it is the lowest that may come next
lowest-next : (c : In-Some) → c.in-Some.v ≡ lowest 129 (λ t. 1 upto t and may_begin c.args.m.now c.loop-wait.left t)
lowest-next c = next_lowest c.settle_all-now.ensures _ c.in-Some.ensures.first

-- it is a vertex, and there is room for it
room : (c : In-Some) → (1 ≤ c.in-Some.v) × (c.loop-wait.n < 128)
room c = filled_next c.loop-wait.invariant.1 _ (lowest-next c) c.in-Some.ensures.high

pub loop-wait-init : goal.loop-wait-init
unfolding nobody
loop-wait-init c = (settled_none _ _ _ (search rules) (search rules), filled_none _ _ _ _ (search rules) (omega arith))

pub returns-in_default : goal.returns-in_default
returns-in_default c =
    filled_all c.loop-wait.invariant.1 129 (none_next c.settle_all-now.ensures c.in_default.ensures) (omega arith)

pub bounds-list-n : goal.bounds-list-n
bounds-list-n c = (room (goal.at.bounds-list-n c).In-Some).1

pub dropped-others-requires : goal.dropped-others-requires
dropped-others-requires c = ((room (goal.at.dropped-others-requires c).In-Some).0, c.in-Some.ensures.high)

pub dropped-then-requires : goal.dropped-then-requires
dropped-then-requires c = ((room (goal.at.dropped-then-requires c).In-Some).0, c.in-Some.ensures.high)

pub loop-wait-smaller : goal.loop-wait-smaller
loop-wait-smaller c = let r = (room (goal.at.loop-wait-smaller c).In-Some).1 in omega arith

pub loop-wait-preserved : goal.loop-wait-preserved
loop-wait-preserved c =
    let at = c.loop-wait in
    let kept = c.dropped-others.ensures in
    let two : length c.settle_all-now.result ≡ 2 = search rules in
    rw (kept, c.dropped-then.ensures) (
      settled_placed c.settle_all-now.ensures at.invariant.1.size two _ c.in-Some.ensures.one _ (search rules) (λ t. c.common-freed.ensures t ∙ rw (c.row.ensures t, kept) refl),
      filled_more at.invariant.1 _ (lowest-next (goal.at.loop-wait-preserved c).In-Some) c.in-Some.ensures.high,
    )

pub returns : goal.returns
returns c =
    let at = c.loop-wait in
    filled_all at.invariant.1 129 (nobody_left _ _ (sym c.any.ensures ∙ c.loop-wait-test.false)) (omega arith)
