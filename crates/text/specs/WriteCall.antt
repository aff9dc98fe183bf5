-- What a call of `write` answers, and what it leaves in the lent buffer: 02 §2.
use Rattle.std.specs.Prelude.{◌≡◌, List, [], ◌∷◌, ℕ, length, Result}
use Rattle.words.specs.Tests.{◌is◌, fails}
use Rattle.words.specs.Lists.{entries}
use Rattle.verdict.specs.Refusal.{◌at◌when◌, ◌else_try◌, log_refusal}
use Rattle.verdict.specs.Call.{Call}
use Rattle.verdict.specs.Answers.{Checked}
use Rattle.verdict.specs.declared.answers.Refusal.{Refusal}
use Rattle.text.specs.Text.{text_of}

-- the buffer for a text has 33,803 bytes, and the text of every well_formed log fits
abbrev pub text_bytes : ℕ
text_bytes = 33803

-- 12: the lent buffer has a wrong length; and then what is wrong with the log
unfoldable pub write_refusal : (log out : List ℕ) → Checked
write_refusal log out = 12 at 0 when fails (length out is text_bytes) else_try log_refusal log

-- the text stands first in its buffer, zeros behind it
unfoldable pub leaves_text : List ℕ → List (List ℕ)
leaves_text w = entries text_bytes w ∷ []

-- what `write` answers and leaves: the text of the log, and its length
abbrev pub WriteCall : (log out : List ℕ) → Result ℕ Refusal → (out' : List ℕ) → Type 0
WriteCall log out r out' =
    Call (λ f. f ≡ write_refusal log out) (λ w. w ≡ text_of log) length leaves_text (out ∷ []) r (out' ∷ [])
