-- What a call of `accepts` answers, and what it leaves in the lent work area.
use Rattle.std.specs.Prelude.{◌≡◌, List, [], ◌∷◌, ℕ, Result}
use Rattle.verdict.specs.Limits.{transactions}
use Rattle.verdict.specs.Refusal.{◌else_try◌, work_refusal, log_refusal}
use Rattle.verdict.specs.declared.answers.Refusal.{Refusal}
use Rattle.verdict.specs.Call.{Call, leaves_work}
use Rattle.plan.specs.Proposal.{proposes, length_refusal, proposal_refusal}
use Rattle.plan.specs.WillDo.{WillDo}
use Rattle.plan.specs.Answers.{Acceptance, Yes, No}

-- yes exactly when the proposal will do
pub data Accepts (log proposal : List ℕ) : Acceptance → Type 0 where
  accepts_yes : WillDo transactions log (proposes proposal) → Accepts log proposal Yes
  accepts_no : (WillDo transactions log (proposes proposal) → ⊥) → Accepts log proposal No

abbrev pub AcceptsCall : (log proposal work : List ℕ) → Result Acceptance Refusal → (work' : List ℕ) → Type 0
AcceptsCall log proposal work r work' =
    Call (λ f. f ≡ work_refusal work else_try length_refusal proposal else_try log_refusal log else_try proposal_refusal log proposal)
    (Accepts log proposal) (λ a. a) leaves_work
    (work ∷ []) r (work' ∷ [])
