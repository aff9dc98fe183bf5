-- What the lines of a text give, first line first: 16, 2, or the steps.
use Rattle.std.specs.Prelude.{◌≡◌, true, List, ◌∷◌, ◌++◌, ℕ, suc, ◌≤◌, ◌<◌}
use Rattle.verdict.specs.Limits.{most_steps}
use Rattle.verdict.specs.Answers.{Checked, Passed, Refused}
use Rattle.text.specs.Line.{header, line, sayable, sayable_step}
use Rattle.text.specs.Text.{lines, text_of, Steps}

-- the bytes do not begin with a header in form
abbrev pub NoHeader : List ℕ → Type 0
NoHeader bytes = (n : ℕ) (rest : List ℕ) → sayable n ≡ true → bytes ≡ header n ++ rest → ⊥

-- the bytes do not begin with a line in form
abbrev pub NoLine : List ℕ → Type 0
NoLine bytes = (k t x s : ℕ) (rest : List ℕ) → sayable_step k t x s ≡ true → bytes ≡ line k t x s ++ rest → ⊥

-- the bytes are the text of this log, which has at most as many steps as a log may have
pub record Says (bytes log : List ℕ) : Type 0 where
  pub n : ℕ
  pub few : n ≤ most_steps
  pub each : Steps n log
  pub whole : bytes ≡ text_of log

pub data Reading (bytes : List ℕ) : Checked → Type 0 where
  -- line 0 departs from the form
  no_header : NoHeader bytes → Reading bytes (Refused 16 0)
  -- the header says more steps than a log may have, whatever follows it
  too_many : (n : ℕ) (rest : List ℕ) → sayable n ≡ true → most_steps < n → bytes ≡ header n ++ rest → Reading bytes (Refused 2 0)
  -- i lines are in form, fewer than the header says, and what follows does not begin with another
  bad_line : (n i : ℕ) (log rest : List ℕ) → n ≤ most_steps → i < n → Steps i log → bytes ≡ header n ++ lines i log ++ rest → NoLine rest
      → Reading bytes (Refused 16 (suc i))
  -- all lines are in form, and something stands behind them
  extra : (n b : ℕ) (log rest : List ℕ) → n ≤ most_steps → Steps n log → bytes ≡ header n ++ lines n log ++ b ∷ rest
      → Reading bytes (Refused 16 (suc n))
  -- a whole text
  in_form : (log : List ℕ) → Says bytes log → Reading bytes Passed
