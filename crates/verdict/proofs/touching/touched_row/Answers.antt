-- `touched_row` meets its contract.
use mathlib.Core.Path.{sym, ◌∙◌}
use native.Mathlib.Numerals.{add-one}
use Rattle.words.proofs.Truth.{→is, →isnt, provided_true, provided_false}
use Rattle.verdict.specs.Inner.ConflictEdges.{touched_row}
use Rattle.verdict.proofs.touching.touched_row.Goals as goal

pub returns-then-kind-eq-READ : goal.returns-then-kind-eq-READ
unfolding touched_row
returns-then-kind-eq-READ c = rw c.from.ensures (add-one _ ∙ sym (provided_true _ _ (→is c.if-kind-eq-READ.true)))

pub returns-then-kind-eq-WRITE : goal.returns-then-kind-eq-WRITE
unfolding touched_row
returns-then-kind-eq-WRITE c = rw c.from-then-kind-eq-WRITE.ensures (add-one _ ∙ sym (provided_false _ _ (→isnt c.if-kind-eq-READ.false) ∙ provided_true _ _ (→is c.if-kind-eq-WRITE.true)))

pub returns : goal.returns
unfolding touched_row
returns c = sym (provided_false _ _ (→isnt c.if-kind-eq-READ.false) ∙ provided_false _ _ (→isnt c.if-kind-eq-WRITE.false))
