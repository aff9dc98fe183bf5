-- 19, from what was found of the members and of what stands behind them.
use mathlib.Core.Path.{◌≡◌, refl, sym, ap, fun_ext, ◌∙◌}
use mathlib.Core.Bool.{Bool, true, false}
use mathlib.Core.List.{List}
use Prim.Native.Nat.{ℕ}
use lib.ListN.{drop}
use Rattle.words.specs.Tests.{◌is◌, ◌and◌}
use Rattle.words.specs.Lists.{all, distinct}
use Rattle.verdict.specs.Log.{committed}
use Rattle.verdict.specs.Next.{up_to_zero}
use Rattle.verdict.specs.Refusal.{log_refusal}
use Rattle.std.specs.Prelude.{None, Some, Ok}
use Rattle.verdict.specs.Answers.{Passed, Refused}
use Rattle.words.proofs.Truth.{to_false, →and, and_no_left, and_no_right, →fails, →not_fails}
use Rattle.verdict.proofs.WellFormed.{well_formed}
use Rattle.verdict.proofs.Versions.{not_zero}
use Rattle.verdict.proofs.Refused.{when_yes, when_no}
use Rattle.plan.specs.Proposal.{proposes, proposal_refusal}
use Rattle.plan.specs.declared.members.Members.{Members}
use Rattle.plan.specs.Inner.Marks.{marked, Committed, MembersOf, Proposes}

-- 0 did not commit
pub nobody_0 : (log : List ℕ) → log_refusal log ≡ Passed → (who : List ℕ) → Committed log who → marked who 0 ≡ false
nobody_0 log well who c = c.each 0 ∙ to_false _ (λ k. not_zero log (well_formed log well) 0 k refl)

module _ (log proposal : List ℕ) {who : List ℕ} (c : Committed log who) where
  same : (w : List ℕ) → all (committed log) w ≡ all (marked who) w
  same w = ap (λ (p : ℕ → Bool). all p w) (fun_ext (λ t. sym (c.each t)))

  -- a member twice, or one that isn't committed
  pub members_refused : MembersOf who proposal None → proposal_refusal log proposal ≡ Refused 19 0
  unfolding proposal_refusal
  members_refused b = when_yes 19 0 (→fails (and_no_left _ (ap (λ (z : Bool). distinct (up_to_zero proposal) and z) (same (up_to_zero proposal)) ∙ b)))

  module _ (m : Members) (f : MembersOf who proposal (Some m)) where
    -- a member after a zero
    pub behind_refused : all (λ t. t is 0) (drop m.count proposal) ≡ false → proposal_refusal log proposal ≡ Refused 19 0
    unfolding proposal_refusal
    behind_refused z = when_yes 19 0 (→fails (and_no_right _ (ap (all (λ t. t is 0)) f.0.back ∙ z)))

    -- neither
    pub members_taken : all (λ t. t is 0) (drop m.count proposal) ≡ true → Proposes log proposal (Ok m.marks)
    unfolding proposal_refusal proposes
    members_taken z =
        (when_no 19 0 (→not_fails (→and (→and f.1 (same (up_to_zero proposal) ∙ f.2)) (ap (all (λ t. t is 0)) f.0.back ∙ z))), f.3, f.4)
