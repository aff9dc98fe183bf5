-- What a verdict with a witness finds, and "next": order, cycle, none, or unclean with its fault; and how the code says it.
use Rattle.std.specs.Prelude.{Bool, List, [], ℕ, suc, length}
use Rattle.graph.specs.Shows.{Shape, Shows}
use Rattle.verdict.specs.Answers.{Fault, Answer, Order, Cycle, None}
use Rattle.verdict.specs.Log.{committed}
use Rattle.verdict.specs.Reason.{Entry, with_reasons, without_reasons}

pub data Outcome : Type 0 where
  order : List ℕ → Outcome
  cycle : List Entry → Outcome
  none : Outcome
  unclean : Fault → Outcome

-- an order or a cycle says how many members it has
unfoldable pub said : Outcome → Answer
said (order w) = Order (length w)
said (cycle c) = Cycle (length c)
said none = None
said (unclean f) = Answer.Unclean f

-- its members, an entry for each
unfoldable pub members : Outcome → List Entry
members (order w) = without_reasons w
members (cycle c) = c
members none = []
members (unclean f) = []

-- of a graph of the committed transactions: without a cycle the first serial order that keeps every edge, else the first shortest cycle with its reasons,
-- which are dependencies `on`
pub data OfGraph (most : ℕ) (log : List ℕ) (edge : ℕ → ℕ → Bool) (on : ℕ → ℕ → ℕ → ℕ → Bool) : Outcome → Type 0 where
  shows_order : {w : List ℕ} → Shows (suc most) (committed log) edge Shape.Order w → OfGraph most log edge on (order w)
  shows_cycle : {c : List ℕ} → Shows (suc most) (committed log) edge Shape.Cycle c → OfGraph most log edge on (cycle (with_reasons on c))
