-- What the reader's functions promise each other: what stands in the bytes from a place on, and where the bytes behind it begin.
use Rattle.std.specs.Prelude.{◌≡◌, Bool, true, false, List, [], ◌∷◌, ◌++◌, ℕ, ◌≤◌, ◌<◌, length, drop, Option, None, Some, Result, Ok, Err}
use Prim.Native.Char.{code}
use Rattle.words.specs.Tests.{◌is◌, ◌upto◌, ◌and◌}
use Rattle.text.specs.Line.{line, sayable_step}
use Rattle.text.specs.Text.{lines, Steps}
use Rattle.text.specs.Reading.{NoLine}
use Rattle.text.specs.OneLine.{IsHeader}
use Rattle.verdict.specs.declared.step.Step.{Step}

-- the bytes begin with this word
unfoldable pub starts : List ℕ → List ℕ → Bool
starts [] bytes = true
starts (a ∷ word) [] = false
starts (a ∷ word) (b ∷ bytes) = a is b and starts word bytes

-- b is the byte of a digit
unfoldable pub is_digit : ℕ → Bool
is_digit b = code "0" upto b and b upto code "9"

-- at this place: a number that passes, in this form; or none
abbrev pub Finds : (form : ℕ → List ℕ) (passes : ℕ → Bool) (bytes : List ℕ) (at : ℕ) → Option (ℕ × ℕ) → Type 0
Finds form passes bytes at (Some (n, next)) = (passes n ≡ true) × (next ≤ length bytes) × (drop at bytes ≡ form n ++ drop next bytes)
Finds form passes bytes at None = (n : ℕ) (rest : List ℕ) → passes n ≡ true → drop at bytes ≡ form n ++ rest → ⊥

-- at this place: a line in form; or none
abbrev pub FindsLine : (bytes : List ℕ) (at : ℕ) → Option (Step × ℕ) → Type 0
FindsLine bytes at (Some (step, next)) =
    (sayable_step step.kind step.tx step.obj step.src ≡ true) × (next ≤ length bytes)
    × (drop at bytes ≡ line step.kind step.tx step.obj step.src ++ drop next bytes)
FindsLine bytes at None = NoLine (drop at bytes)

-- the bytes are a header and no more; or not
abbrev pub FindsHeader : (bytes : List ℕ) → Bool → Type 0
FindsHeader bytes true = IsHeader bytes
FindsHeader bytes false = IsHeader bytes → ⊥

-- a buffer after a pass over the lines of this log: its steps stand first
unfoldable pub kept : List ℕ → List ℕ → List ℕ
kept log buffer = log ++ drop (length log) buffer

-- a pass over n lines from this place on: all are in form, or i are and what follows does not begin with another
abbrev pub Passes : (bytes : List ℕ) (at n : ℕ) (buffer : List ℕ) → Result ℕ ℕ → (buffer' : List ℕ) → Type 0
Passes bytes at n buffer (Ok next) buffer' =
    (log : List ℕ) × Steps n log × (next ≤ length bytes) × (drop at bytes ≡ lines n log ++ drop next bytes) × (buffer' ≡ kept log buffer)
Passes bytes at n buffer (Err i) buffer' =
    (log : List ℕ) × (rest : List ℕ) × (i < n) × Steps i log × (drop at bytes ≡ lines i log ++ rest) × NoLine rest
