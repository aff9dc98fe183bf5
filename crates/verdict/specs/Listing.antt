-- The listing of demand 3, by calls of the code: it begins with the order that `version` shows and asks `next` until told there is none.
-- Each call may be lent any buffers. `next` is handed the order that the call before brought.
use Rattle.std.specs.Prelude.{List, [], ◌∷◌, ℕ, Ok}
use Rattle.verdict.specs.Witness.{read_off, handed}
use Rattle.verdict.specs.Call.{VersionCall, NextCall}
use Rattle.verdict.specs.Answers.{Fault, Answer, Order, Cycle, None}

-- an order that `version` shows, and one that `next` brings after v: it is read off the witness
pub data VersionOrder (log : List ℕ) : List ℕ → Type 0 where
  version_order : {work witness work' witness' : List ℕ} {n : ℕ} → VersionCall log work witness (Ok (Order n)) work' witness'
      → VersionOrder log (read_off n witness')

pub data NextOrder (log v : List ℕ) : List ℕ → Type 0 where
  next_order : {work witness work' witness' : List ℕ} {n : ℕ} → NextCall log (handed v) work witness (Ok (Order n)) work' witness'
      → NextOrder log v (read_off n witness')

-- what asking after v brings
pub data Asked (log : List ℕ) : List ℕ → List (List ℕ) → Type 0 where
  ends : {v work witness work' witness' : List ℕ} → NextCall log (handed v) work witness (Ok None) work' witness' → Asked log v []
  brings : {v w : List ℕ} {ws : List (List ℕ)} → NextOrder log v w → Asked log w ws → Asked log v (w ∷ ws)

-- the whole listing; it is empty where `version` shows no order
pub data Listing (log : List ℕ) : List (List ℕ) → Type 0 where
  from_first : {w : List ℕ} {ws : List (List ℕ)} → VersionOrder log w → Asked log w ws → Listing log (w ∷ ws)
  empty_cycle : {work witness work' witness' : List ℕ} {n : ℕ} → VersionCall log work witness (Ok (Cycle n)) work' witness' → Listing log []
  empty_unclean : {work witness work' witness' : List ℕ} {f : Fault}
      → VersionCall log work witness (Ok (Answer.Unclean f)) work' witness' → Listing log []

-- an order that was brought
pub data Brought (log : List ℕ) : List ℕ → Type 0 where
  by_version : {w : List ℕ} → VersionOrder log w → Brought log w
  by_next : {v w : List ℕ} → NextOrder log v w → Brought log w
