-- What turns a call away, number by number, and what the judge answers.
use mathlib.Core.Path.{◌≡◌, refl, sym, ap, subst, fun_ext, ◌∙◌}
use mathlib.Core.List.{List}
use Prim.Native.Nat.{ℕ}
use lib.ListN.{length}
use Rattle.words.specs.Lists.{zeros}
use Rattle.verdict.specs.Limits.{transactions}
use Rattle.verdict.specs.Call.{answered}
use Rattle.verdict.specs.Refusal.{◌else_try◌, log_refusal, work_refusal}
use Rattle.std.specs.Prelude.{Ok}
use Rattle.verdict.specs.Answers.{Checked, Passed, Refused}
use Rattle.words.proofs.Truth.{is→, not_fails→}
use Rattle.verdict.proofs.WellFormed.{else_try→, when→}
use Rattle.verdict.proofs.Refused.{tried_refused, tried_passed, try_more}
use Rattle.verdict.proofs.Frame.{work_length, both_passed}
use Rattle.plan.specs.Proposal.{proposal_entries, proposes, length_refusal}
use Rattle.plan.specs.WillDo.{WillDo}
use Rattle.plan.specs.AcceptsCall.{Accepts, accepts_yes, accepts_no}
use Rattle.plan.specs.Redo.{rising, redo}
use Rattle.plan.specs.RedoCall.{leaves_proposal, RedoCall}
use Rattle.plan.specs.declared.answers.Acceptance.{Acceptance}
use Rattle.plan.specs.Inner.Marks.{table, marked}
use Rattle.plan.specs.Inner.Trials.{Judges, yes, no}
use Rattle.plan.specs.Inner.Planning.{Planned}
use Rattle.plan.specs.Inner.Laying.{Laid}

-- a proposal of the right length
pub proposal_length : (proposal : List ℕ) → length_refusal proposal ≡ Passed → length proposal ≡ proposal_entries
unfolding length_refusal
proposal_length proposal e = is→ (not_fails→ (when→ 12 0 _ e))

-- the numbers that are tried first: a, b and l, and then s
module _ (a b l s : Checked) where
  pub refused_early : {n p : ℕ} → (a else_try b else_try l) ≡ Refused n p → Refused n p ≡ (a else_try b else_try l else_try s)
  refused_early e = sym (try_more a b l s ∙ tried_refused s e)

  module _ (e : (a else_try b else_try l) ≡ Passed) where
    pub all_passed : (a ≡ Passed) × (b ≡ Passed) × (l ≡ Passed)
    all_passed = let p = else_try→ e in let q = else_try→ p.1 in (p.0, q.0, q.1)

    pub then_tried : {t : Checked} → s ≡ t → t ≡ (a else_try b else_try l else_try s)
    then_tried f = sym (try_more a b l s ∙ tried_passed s e ∙ f)

-- what the judge says of the marks it says of the proposal
pub judged_proposal : {log proposal : List ℕ} (marks : List ℕ) {r : Acceptance} → ((t : ℕ) → marked marks t ≡ proposes proposal t) → Judges (WillDo transactions log (marked marks)) r → Accepts log proposal r
judged_proposal {log} marks each (yes w) = accepts_yes (subst (WillDo transactions log) (fun_ext each) w)
judged_proposal {log} marks each (no n) = accepts_no (λ w. n (subst (WillDo transactions log) (sym (fun_ext each)) w))

-- what the planner lays into the proposal is what it answers
pub redone : {log work proposal : List ℕ} (marks : List ℕ) {work' proposal' : List ℕ} {count : ℕ} → work_refusal work ≡ Passed → length_refusal proposal ≡ Passed → log_refusal log ≡ Passed
    → Planned log marks → work' ≡ zeros (length work) → Laid marks table proposal' count → RedoCall log work proposal (Ok count) work' proposal'
unfolding leaves_proposal
redone {work} marks a b c p z l =
    answered (rising table (marked marks)) (sym (both_passed a (both_passed b c))) (redo p.ends) (ap Ok l.counted) (rw (z, work_length work a, l.laid) refl)
