-- `judged_other` meets its contract.
use mathlib.Core.Path.{sym, ◌∙◌}
use Prim.Native.Nat.{◌≤◌}
use native.Mathlib.Omega.{arith}
use Rattle.verdict.specs.Limits.{transactions}
use Rattle.verdict.specs.Log.{steps, tx}
use Rattle.verdict.proofs.WellFormed.{well_formed}
use Rattle.verdict.proofs.JudgedReads.{other_kind, own_source, if_committed}
use Rattle.verdict.proofs.Matrices.{told_committed}
use Rattle.verdict.proofs.search.judged_other.Lts
use Rattle.verdict.proofs.search.judged_other.Tie as tie
use Rattle.verdict.proofs.search.judged_other.Reads
use Rattle.verdict.proofs.search.judged_other.Goals as goal

-- places on the way, by the names that the toolchain gives them
abbrev After-step_at-step : Type 0
After-step_at-step = Lts.After-step_at tie.the-claims Reads.Pre Reads.Post

-- the reader is within the limits
tx_in : (c : After-step_at-step) → let t = tx c.args.log.now c.args.i in (1 ≤ t) × (t ≤ transactions)
unfolding steps
tx_in c = (well_formed _ c.requires.0).range c.args.i (omega (arith, c.requires.1))

pub returns-then-step-ne-READ : goal.returns-then-step-ne-READ
returns-then-step-ne-READ c = sym (other_kind _ _ (λ e. c.if-step-ne-READ.true (c.step_at-step.ensures.kind_is ∙ e)))

pub returns-then-step : goal.returns-then-step
returns-then-step c = let step = c.step_at-step.ensures in sym (own_source _ _ (sym step.src_is ∙ c.if-step.true ∙ step.tx_is))

pub takes_part-requires : goal.takes_part-requires
takes_part-requires c = rw c.step_at-step.ensures.tx_is (tx_in c.before.before.before.before.before)

pub returns : goal.returns
returns c =
    let step = c.step_at-step.ensures in
    told_committed c.requires.2 c.takes_part.ensures step.tx_is
    ∙ sym (if_committed _ _ (sym step.kind_is ∙ c.if-step-ne-READ.false) (λ q. c.if-step.false (step.src_is ∙ q ∙ sym step.tx_is)))
