-- The order handed to "next", and what comes after it.
use Rattle.std.specs.Prelude.{◌≡◌, List, ℕ, ◌≤◌, length, take, drop, Result}
use Rattle.words.specs.First.{dictionary, First, Never, later}
use Rattle.graph.specs.Matrix.{matrix_order}
use Rattle.verdict.specs.Limits.{transactions}
use Rattle.verdict.specs.Outcome.{Outcome, order, none}
use Rattle.verdict.specs.Judgement.{Holds}
use Rattle.verdict.specs.Next.{Next, up_to_zero, from_zero, list_refusal}
use Rattle.verdict.specs.Answers.{Refusal, Witnessed}
use Rattle.verdict.specs.Inner.Checking.{Checks}

-- r numbers of an order handed in stand before the first 0
pub record Split (handed_in : List ℕ) (r : ℕ) : Type 0 where
  pub size : r ≤ length handed_in
  pub front : up_to_zero handed_in ≡ take r handed_in
  pub back : from_zero handed_in ≡ drop r handed_in

-- the first order of a matrix that comes later than v, or none
pub data LaterOrder (m part v : List ℕ) : Outcome → Type 0 where
  later_order : {w : List ℕ} → First dictionary (later (matrix_order transactions m part) v) w → LaterOrder m part v (order w)
  none_later : Never (later (matrix_order transactions m part) v) → LaterOrder m part v none

abbrev pub Brings : (m part v : List ℕ) → Witnessed → Type 0
Brings m part v = Holds (LaterOrder m part v)

-- what comes after an order that is handed in with a well_formed log: 14, or the next order
abbrev pub Comes : (log handed_in : List ℕ) → Result Witnessed Refusal → Type 0
Comes log handed_in = Checks (list_refusal transactions log handed_in) (Holds (Next transactions log (up_to_zero handed_in)))
