-- A text: its header, a line for each step, and nothing behind. The steps are a log's, four numbers for each.
use Rattle.std.specs.Prelude.{◌≡◌, true, List, [], ◌∷◌, ◌++◌, ℕ, zero, suc, drop}
use Rattle.verdict.specs.Log.{steps, kind, tx, obj, src}
use Rattle.text.specs.Line.{header, line, sayable_step}

-- the lines of the first n steps
unfoldable pub lines : ℕ → List ℕ → List ℕ
lines zero log = []
lines (suc n) log = line (kind log 0) (tx log 0) (obj log 0) (src log 0) ++ lines n (drop 4 log)

-- the text of a log
unfoldable pub text_of : List ℕ → List ℕ
text_of log = header (steps log) ++ lines (steps log) log

-- a log of n steps, each of which a line can say
pub data Steps : ℕ → List ℕ → Type 0 where
  no_step : Steps zero []
  a_step : {n k t x s : ℕ} {log : List ℕ} → sayable_step k t x s ≡ true → Steps n log → Steps (suc n) (k ∷ t ∷ x ∷ s ∷ log)
