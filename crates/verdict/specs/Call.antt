-- What a public call answers, and what it leaves in the lent buffers: said once, and then for each entry point.
use Rattle.std.specs.Prelude.{◌≡◌, List, [], ◌∷◌, ℕ, Result, Ok}
use Rattle.words.specs.Lists.{zeros}
use Rattle.verdict.specs.Limits.{transactions, work_bytes}
use Rattle.verdict.specs.Refusal.{◌else_try◌, log_refusal, search_refusal, work_refusal, witness_refusal, order_refusal}
use Rattle.verdict.specs.Clean.{cleanness}
use Rattle.verdict.specs.Snapshot.{snapshot_verdict}
use Rattle.verdict.specs.Outcome.{Outcome, said}
use Rattle.verdict.specs.Witness as lent
use Rattle.verdict.specs.Conflict.{Conflict}
use Rattle.verdict.specs.Version.{Version}
use Rattle.verdict.specs.Exact.{Exact}
use Rattle.verdict.specs.Next.{Next, up_to_zero, list_refusal}
use Rattle.verdict.specs.Answers.{Refusal, Checked, Passed, Refused, Cleanness, Snapshot, Answer}

-- A call with the lent buffers `lent`, which leaves them as `left` and answers r. `applies` says which refusal applies, if any.
-- Turned away: the number and the place, and every lent entry is as before.
-- Answered: what the verdict allows, as the code says it, and in the buffers just what belongs to that answer
pub data Call {A R : Type 0} (applies : Checked → Type 0) (verdict : A → Type 0) (says : A → R) (leaves : A → List (List ℕ))
    (lent : List (List ℕ)) (r : Result R Refusal) (left : List (List ℕ)) : Type 0 where
  turned_away : (number place : ℕ) → applies (Refused number place) → r ≡ Refused number place → left ≡ lent
      → Call applies verdict says leaves lent r left
  answered : (a : A) → applies Passed → verdict a → r ≡ Ok (says a) → left ≡ leaves a → Call applies verdict says leaves lent r left

-- the work area all 0; and the witness of an outcome
unfoldable pub leaves_work : {A : Type 0} → A → List (List ℕ)
leaves_work a = zeros work_bytes ∷ []

unfoldable pub leaves_witness : Outcome → List (List ℕ)
leaves_witness a = zeros work_bytes ∷ lent.witness a ∷ []

-- the entry points, each by its own refusal and its own verdict
abbrev pub CleanCall : (log work : List ℕ) → Result Cleanness Refusal → (work' : List ℕ) → Type 0
CleanCall log work r work' =
    Call (λ f. f ≡ work_refusal work else_try log_refusal log) (λ a. a ≡ cleanness log) (λ a. a) leaves_work
    (work ∷ []) r (work' ∷ [])

abbrev pub SnapshotCall : (log work : List ℕ) → Result Snapshot Refusal → (work' : List ℕ) → Type 0
SnapshotCall log work r work' =
    Call (λ f. f ≡ work_refusal work else_try log_refusal log) (λ a. a ≡ snapshot_verdict transactions log) (λ a. a) leaves_work
    (work ∷ []) r (work' ∷ [])

-- a call with a witness
abbrev pub WitnessCall : Checked → (Outcome → Type 0) → (work witness : List ℕ) → Result Answer Refusal → (work' witness' : List ℕ) → Type 0
WitnessCall refusal verdict work witness r work' witness' =
    Call (λ f. f ≡ work_refusal work else_try witness_refusal witness else_try refusal) verdict said leaves_witness
    (work ∷ witness ∷ []) r (work' ∷ witness' ∷ [])

abbrev pub ConflictCall : (log work witness : List ℕ) → Result Answer Refusal → (work' witness' : List ℕ) → Type 0
ConflictCall log = WitnessCall (log_refusal log) (Conflict transactions log)

abbrev pub VersionCall : (log work witness : List ℕ) → Result Answer Refusal → (work' witness' : List ℕ) → Type 0
VersionCall log = WitnessCall (log_refusal log) (Version transactions log)

abbrev pub ExactCall : (log work witness : List ℕ) → Result Answer Refusal → (work' witness' : List ℕ) → Type 0
ExactCall log = WitnessCall (log_refusal log else_try search_refusal log) (Exact transactions log)

abbrev pub NextCall : (log order work witness : List ℕ) → Result Answer Refusal → (work' witness' : List ℕ) → Type 0
NextCall log order =
    WitnessCall (order_refusal order else_try log_refusal log else_try list_refusal transactions log order) (Next transactions log (up_to_zero order))
