-- `marked_above` meets its contract.
use mathlib.Core.Path.{sym, ◌∙◌}
use Rattle.words.proofs.Truth.{→and, and_no_left, →below, →not_below, →some, →none, none→}
use Rattle.bits.proofs.Walks.{asked_turn}
use Rattle.bits.proofs.table.marked_above.Goals as goal

pub returns-then-b-from : goal.returns-then-b-from
returns-then-b-from c =
    let t = c.in-Some.ensures.steps in
    sym (sym c.loop-x.invariant ∙ →some _ c.in-Some.x t.size (→and t.mark (→below (rw c.from.ensures at c.if-b-from.true))))

pub loop-x-preserved : goal.loop-x-preserved
loop-x-preserved c = asked_turn c.in-Some.ensures.steps _ (→not_below (rw c.from.ensures at c.if-b-from.false)) ∙ c.loop-x.invariant

pub returns : goal.returns
returns c = sym (sym c.loop-x.invariant ∙ →none _ (λ x h. and_no_left _ (none→ _ c.in-None.ensures.steps x h)))
