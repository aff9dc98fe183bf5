-- What a call of `read` answers, and what it leaves in the lent step buffer.
use Rattle.std.specs.Prelude.{◌≡◌, List, [], ◌∷◌, ℕ, ◌*◌, ◌≤◌, ◌<◌, length, Result}
use Rattle.words.specs.Lists.{entries}
use Rattle.verdict.specs.Limits.{most_steps}
use Rattle.verdict.specs.Log.{steps}
use Rattle.verdict.specs.Answers.{Checked, Refused}
use Rattle.verdict.specs.declared.answers.Refusal.{Refusal}
use Rattle.verdict.specs.Call.{Call}
use Rattle.text.specs.Reading.{Reading, Says}

-- a text has at most 33,803 bytes
abbrev pub most_bytes : ℕ
most_bytes = 33803

-- the step buffer has four numbers for each step that a log may have
abbrev pub step_entries : ℕ
step_entries = 4 * most_steps

-- the first refusal that applies, if any: 12, 15, and then what the lines give
pub data ReadRefusal (text buffer : List ℕ) : Checked → Type 0 where
  -- the step buffer has a wrong length
  wrong_buffer : (length buffer ≡ step_entries → ⊥) → ReadRefusal text buffer (Refused 12 0)
  -- the text is too long
  too_long : length buffer ≡ step_entries → most_bytes < length text → ReadRefusal text buffer (Refused 15 0)
  -- else the lines decide
  by_line : {found : Checked} → length buffer ≡ step_entries → length text ≤ most_bytes → Reading text found → ReadRefusal text buffer found

-- of an accepted text the number of steps is answered, and the buffer holds the steps and then zeros
unfoldable pub leaves_steps : List ℕ → List (List ℕ)
leaves_steps log = entries step_entries log ∷ []

-- what `read` answers and leaves
abbrev pub ReadCall : (text buffer : List ℕ) → Result ℕ Refusal → (buffer' : List ℕ) → Type 0
ReadCall text buffer r buffer' =
    Call (ReadRefusal text buffer) (Says text) steps leaves_steps (buffer ∷ []) r (buffer' ∷ [])
