-- `keeps` meets its contract.
use mathlib.Core.Path.{sym, ap, ◌∙◌}
use native.Mathlib.Omega.{arith}
use Rattle.words.specs.Tests.{fails}
use Rattle.words.proofs.Truth.{not_fails, and_true, and_no_left}
use Rattle.graph.proofs.Peel.{free→}
use Rattle.graph.proofs.Marks.{part→, size_unmarked, matrix_turn, matrix_end}
use Rattle.graph.proofs.order.keeps.Goals as goal

pub returns-then-not-begins : goal.returns-then-not-begins
returns-then-not-begins c =
    let at = c.loop-v in
    sym (at.invariant.1 ∙ matrix_turn 128 _ _ (omega arith) _ at.v-index (omega arith) ∙ and_no_left _ (rw c.from-v.ensures at (sym c.begins.ensures ∙ c.if-not-begins.true)))

pub dropped-rest-requires : goal.dropped-rest-requires
dropped-rest-requires c = let p = part→ 128 _ _ (free→ (sym c.begins.ensures ∙ c.if-not-begins.false)).is_node in (p.low, p.high)

pub loop-v-preserved : goal.loop-v-preserved
loop-v-preserved c =
    let at = c.loop-v in
    let rest = c.dropped-rest.ensures in
    let v = c.from-v.ensures in
    (rw rest (size_unmarked _ _ ∙ at.invariant.0), rw (rest, v) (at.invariant.1 ∙ matrix_turn 128 _ _ (omega arith) _ at.v-index (omega arith) ∙ and_true (rw v at (sym c.begins.ensures ∙ c.if-not-begins.false))))

pub returns : goal.returns
returns c =
    let at = c.loop-v in
    not_fails _ ∙ ap fails c.any.ensures ∙ sym (at.invariant.1 ∙ matrix_end 128 _ _ _ at.v-index (omega arith))
