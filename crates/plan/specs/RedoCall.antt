-- What a call of `redo` answers, and what it leaves in the lent buffers.
use Rattle.std.specs.Prelude.{◌≡◌, List, [], ◌∷◌, ℕ, length, Result}
use Rattle.words.specs.Lists.{zeros, entries}
use Rattle.verdict.specs.Limits.{transactions, work_bytes}
use Rattle.verdict.specs.Refusal.{◌else_try◌, work_refusal, log_refusal}
use Rattle.verdict.specs.declared.answers.Refusal.{Refusal}
use Rattle.verdict.specs.Call.{Call}
use Rattle.plan.specs.Proposal.{proposal_entries, length_refusal}
use Rattle.plan.specs.Redo.{Redo}

-- the number of members is answered, and the work area is all 0; in the proposal the members stand first, and then zeros
unfoldable pub leaves_proposal : List ℕ → List (List ℕ)
leaves_proposal members = zeros work_bytes ∷ entries proposal_entries members ∷ []

abbrev pub RedoCall : (log work proposal : List ℕ) → Result ℕ Refusal → (work' proposal' : List ℕ) → Type 0
RedoCall log work proposal r work' proposal' =
    Call (λ f. f ≡ work_refusal work else_try length_refusal proposal else_try log_refusal log)
    (Redo transactions log) length leaves_proposal
    (work ∷ proposal ∷ []) r (work' ∷ proposal' ∷ [])
