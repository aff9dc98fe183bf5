-- What a call with a witness leaves once its answer is found.
use Rattle.std.specs.Prelude.{◌≡◌, List, ℕ, length}
use Rattle.words.specs.Lists.{zeros}
use Rattle.verdict.specs.Answers.{Answer, Witnessed}

-- the answer is said, the work area is all 0, and the witness is the list of the entries
pub record Leaves (work : List ℕ) (found : Witnessed) (r : Answer) (work' witness' : List ℕ) : Type 0 where
  pub says : r ≡ found.answer
  pub cleared : work' ≡ zeros (length work)
  pub laid : witness' ≡ found.list
