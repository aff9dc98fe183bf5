-- "Next": the dictionary-first explaining order that comes later than the one handed in, or none.
use Rattle.std.specs.Prelude.{List, [], ◌∷◌, ℕ}
use Rattle.words.specs.Tests.{◌is◌, ◌and◌, fails, provided◌then◌else◌}
use Rattle.words.specs.Lists.{all}
use Rattle.words.specs.First.{dictionary, First, Never, later}
use Rattle.verdict.specs.Refusal.{◌at◌when◌}
use Rattle.verdict.specs.Replay.{explains}
use Rattle.verdict.specs.Outcome.{Outcome, order, none}
use Rattle.verdict.specs.Answers.{Checked}

-- after the order v
pub data Next (most : ℕ) (log v : List ℕ) : Outcome → Type 0 where
  next : {w : List ℕ} → First dictionary (later (explains most log) v) w → Next most log v (order w)
  next_none : Never (later (explains most log) v) → Next most log v none

-- the numbers handed in up to the first 0, and those from there on
unfoldable pub up_to_zero : List ℕ → List ℕ
up_to_zero [] = []
up_to_zero (t ∷ l) = provided t is 0 then [] else (t ∷ up_to_zero l)

unfoldable pub from_zero : List ℕ → List ℕ
from_zero [] = []
from_zero (t ∷ l) = provided t is 0 then (t ∷ l) else from_zero l

-- 14: the numbers handed in are no order of the list with zeros after it
unfoldable pub list_refusal : ℕ → List ℕ → List ℕ → Checked
list_refusal most log handed_in = 14 at 0 when fails (explains most log (up_to_zero handed_in) and all (λ t. t is 0) (from_zero handed_in))
