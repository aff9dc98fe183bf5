-- One line by itself, with its line end, and what `read_line` says of it.
use Rattle.std.specs.Prelude.{◌≡◌, true, List, ℕ}
use Rattle.text.specs.Line.{header, line, sayable, sayable_step}
use Rattle.text.specs.declared.OneLine.{OneLine}

-- the longest line in form has so many bytes: a commit whose numbers have five digits each
abbrev pub longest_line : ℕ
longest_line = 40

-- the bytes are the header of some number
pub record IsHeader (bytes : List ℕ) : Type 0 where
  pub n : ℕ
  pub fine : sayable n ≡ true
  pub whole : bytes ≡ header n

-- the bytes are the line of this step
pub record IsStep (bytes : List ℕ) (k t x s : ℕ) : Type 0 where
  pub fine : sayable_step k t x s ≡ true
  pub whole : bytes ≡ line k t x s

-- what a line says: the step whose line it is; that it is a header; or that it is no step's line and no header
pub data SaysLine (bytes : List ℕ) : OneLine → Type 0 where
  step_line : {k t x s : ℕ} → IsStep bytes k t x s → SaysLine bytes (OneLine.Step k t x s)
  header_line : IsHeader bytes → SaysLine bytes OneLine.Header
  other_line : ((k t x s : ℕ) → IsStep bytes k t x s → ⊥) → (IsHeader bytes → ⊥) → SaysLine bytes OneLine.Other
