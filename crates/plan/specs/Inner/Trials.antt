-- What is found of a log with some transactions taken back.
use Rattle.std.specs.Prelude.{◌≡◌, Bool, true, false, List, ℕ}
use Rattle.verdict.specs.Limits.{transactions}
use Rattle.verdict.specs.Outcome.{Outcome, said}
use Rattle.verdict.specs.Version.{Version}
use Rattle.verdict.specs.declared.answers.Answer.{Answer}
use Rattle.plan.specs.TakenBack.{taken_back, ◌but◌}
use Rattle.plan.specs.Fine.{Fine}
use Rattle.plan.specs.WillDo.{Needs}
use Rattle.plan.specs.Answers.{Acceptance, Yes, No}

-- the numbers of a log with as many steps as there may be
abbrev pub step_numbers : ℕ
step_numbers = 4096

-- the answer of the version verdict
pub record Shown (log : List ℕ) (back : ℕ → Bool) (a : Answer) : Type 0 where
  pub outcome : Outcome
  pub right : Version transactions (taken_back back log) outcome
  pub says : a ≡ said outcome

-- whether it is fine
pub data Tells (A : Type 0) : Bool → Type 0 where
  so : A → Tells A true
  not_so : (A → ⊥) → Tells A false

-- each of `fewer` is one of `back`
abbrev pub Within : (fewer back : ℕ → Bool) → Type 0
Within fewer back = (u : ℕ) → fewer u ≡ true → back u ≡ true

-- t waits for s: whatever is given back of those in `back`, t cannot be given back before s
abbrev pub Waits : (log : List ℕ) (back : ℕ → Bool) (t s : ℕ) → Type 0
Waits log back t s = (fewer : ℕ → Bool) → Within fewer back → fewer t ≡ true → fewer s ≡ true → Needs transactions log fewer t

-- what trying to give t back finds: 0, and it can be given back, or whom it waits for
pub data Tried (log : List ℕ) (back : ℕ → Bool) (t : ℕ) : ℕ → Type 0 where
  given_back : Fine transactions (taken_back (back but t) log) → Tried log back t 0
  waits_for : {s : ℕ} → back s ≡ true → Waits log back t s → Tried log back t s

-- what the judge says: yes exactly when it is so
pub data Judges (A : Type 0) : Acceptance → Type 0 where
  yes : A → Judges A Yes
  no : (A → ⊥) → Judges A No
