-- `committed_count` meets its contract.
use mathlib.Core.Path.{◌≡◌, refl, sym, ap, ◌∙◌}
use Prim.Native.Nat.{suc, ◌/◌}
use native.Mathlib.Omega.{arith}
use native.Mathlib.Numerals.{add-one}
use lib.ListN.{length}
use Rattle.words.specs.Tests.{count}
use Rattle.words.proofs.Truth.{→is, →isnt, count_yes, count_no}
use Rattle.verdict.specs.Log.{steps, committed_count}
use Rattle.verdict.proofs.walk.committed_count.Goals as goal
use Rattle.verdict.proofs.walk.committed_count.Goals.{then-step-eq-COMMIT, else-step-eq-COMMIT}

pub loop-i-init : goal.loop-i-init
unfolding count
loop-i-init c = (omega arith, refl)

pub loop-i-preserved : goal.loop-i-preserved
loop-i-preserved c =
    let inv = c.loop-i.invariant in
    let step = c.step_at-step.ensures in (
      elim c.if-step-eq-COMMIT.branch [
        | then-step-eq-COMMIT w ↦ omega (arith, w.total-is)
        | else-step-eq-COMMIT w ↦ omega (arith, w.total-is)
      ],
      elim c.if-step-eq-COMMIT.branch [
        | then-step-eq-COMMIT w ↦
            w.total-is ∙ add-one _ ∙ ap suc inv.1 ∙ sym (count_yes _ _ (→is (sym step.kind_is ∙ w.if-step-eq-COMMIT.true)))
        | else-step-eq-COMMIT w ↦
            w.total-is ∙ inv.1 ∙ sym (count_no _ _ (→isnt (λ e. w.if-step-eq-COMMIT.false (step.kind_is ∙ e))))
      ],
    )

pub returns : goal.returns
unfolding committed_count steps
returns c = let e : c.loop-i.i ≡ length c.args.log.now / 4 = omega arith in rw (← e) c.loop-i.invariant.1
