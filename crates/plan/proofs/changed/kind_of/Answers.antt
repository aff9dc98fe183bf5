-- `kind_of` meets its contract.
use mathlib.Core.Path.{◌≡◌, sym, ap, ◌∙◌}
use Rattle.words.proofs.Truth.{→and, and_no_left, and_no_right, →is, →isnt, provided_true, provided_false}
use Rattle.plan.specs.Inner.Marks.{marked}
use Rattle.plan.proofs.changed.kind_of.Lts
use Rattle.plan.proofs.changed.kind_of.Tie as tie
use Rattle.plan.proofs.changed.kind_of.Reads
use Rattle.plan.proofs.changed.kind_of.Goals as goal

-- places on the way, by the names that the toolchain gives them
abbrev After-is_marked : Type 0
After-is_marked = Lts.After-is_marked tie.the-claims Reads.Pre Reads.Post

is_marked : (c : After-is_marked) → c.is_marked.result ≡ marked c.args.back.now c.args.t
is_marked c = c.is_marked.ensures ∙ ap (marked _) c.from.ensures

pub returns-then-kind-ne-COMMIT : goal.returns-then-kind-ne-COMMIT
returns-then-kind-ne-COMMIT c = sym (provided_false _ _ (and_no_left _ (→isnt c.if-kind-ne-COMMIT.true)))

pub returns-then-not-is_marked : goal.returns-then-not-is_marked
returns-then-not-is_marked c = sym (provided_false _ _ (and_no_right _ (sym (is_marked c.before) ∙ c.if-not-is_marked.true)))

pub returns : goal.returns
returns c = sym (provided_true _ _ (→and (→is c.if-kind-ne-COMMIT.false) (sym (is_marked c.before) ∙ c.if-not-is_marked.false)))
