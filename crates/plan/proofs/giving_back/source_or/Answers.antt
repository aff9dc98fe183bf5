-- `source_or` meets its contract.
use mathlib.Core.Path.{◌≡◌, sym, ap, ◌∙◌}
use Rattle.words.proofs.Truth.{provided_true, provided_false}
use Rattle.verdict.specs.Log.{src}
use Rattle.plan.specs.Inner.Marks.{marked}
use Rattle.plan.proofs.giving_back.source_or.Lts
use Rattle.plan.proofs.giving_back.source_or.Tie as tie
use Rattle.plan.proofs.giving_back.source_or.Reads
use Rattle.plan.proofs.giving_back.source_or.Goals as goal

-- places on the way, by the names that the toolchain gives them
abbrev After-is_marked : Type 0
After-is_marked = Lts.After-is_marked tie.the-claims Reads.Pre Reads.Post

-- the source, as an index
source : (c : After-is_marked) → c.from-s.result ≡ src c.args.log.now c.args.k
unfolding src
source c = c.from-s.ensures

pub returns-then-is_marked : goal.returns-then-is_marked
returns-then-is_marked c = source c.before.before ∙ sym (provided_true _ _ (ap (marked _) (sym (source c.before.before)) ∙ sym c.is_marked.ensures ∙ c.if-is_marked.true))

pub returns : goal.returns
returns c = sym (provided_false _ _ (ap (marked _) (sym (source c.before.before)) ∙ sym c.is_marked.ensures ∙ c.if-is_marked.false))
