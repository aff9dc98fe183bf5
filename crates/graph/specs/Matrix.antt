-- The graph that rows of marks stand for, and what the public functions say of it. Vertices are 1..n.
use Rattle.std.specs.Prelude.{◌≡◌, Bool, List, ℕ, suc, ◌+◌, ◌-◌, ◌*◌, length, Option, Some, None}
use Rattle.words.specs.Tests.{◌is◌, ◌upto◌, ◌and◌, ◌or◌, fails}
use Rattle.bits.specs.Run.{bit}
use Rattle.words.specs.Lists.{entries}
use Rattle.words.specs.First.{dictionary, First, Never, later}
use Rattle.graph.specs.Order.{is_order}
use Rattle.graph.specs.Shows.{Shape, Shows}
use Rattle.graph.specs.declared.Members.{Members}
use Rattle.graph.specs.declared.Shown.{Shown}

-- how many vertices the functions are made for
abbrev pub vertices : ℕ
vertices = 128

-- how many words of 64 marks the rows of all vertices have
abbrev pub row_words : ℕ
row_words = 256

-- v takes part: a number from 1 to n that is marked; the mark of 1 comes first
unfoldable pub takes_part : ℕ → List ℕ → ℕ → Bool
takes_part n part v = 1 upto v and v upto n and bit part (v - 1)

module _ (n : ℕ) (m part : List ℕ) where
  -- an edge leads from a to b: both take part, they differ, and a is marked in the row of b
  unfoldable pub joined : ℕ → ℕ → Bool
  joined a b = fails (a is b) and takes_part n part a and takes_part n part b and bit m ((b - 1) * n + (a - 1))

  -- an order of the vertices that take part, keeping every edge
  unfoldable pub matrix_order : List ℕ → Bool
  matrix_order w = is_order (suc n) (takes_part n part) joined w

-- a is marked in the row of b
unfoldable pub in_row : List ℕ → ℕ → ℕ → Bool
in_row m b a = 1 upto b and b upto vertices and 1 upto a and a upto vertices and bit m ((b - 1) * vertices + (a - 1))

-- what `join` does to rows: those of the set are marked in the row of b too
pub record Joins (m set : List ℕ) (b : ℕ) (m' : List ℕ) : Type 0 where
  pub size : length m' ≡ length m
  pub each : length m ≡ row_words → (c a : ℕ) → in_row m' c a ≡ (in_row m c a or (c is b and 1 upto b and b upto vertices and takes_part vertices set a))

-- what `lent_drop` does to rows: a is not marked in the row of b any more
pub record Drops (m : List ℕ) (a b : ℕ) (m' : List ℕ) : Type 0 where
  pub size : length m' ≡ length m
  pub each : (c d : ℕ) → in_row m' c d ≡ (in_row m c d and fails (c is b and d is a))

-- an answered list: its members are right, zeros stand behind them, and they are counted
pub record Lists (n : ℕ) (fits : List ℕ → Type 0) (r : Members) : Type 0 where
  pub members : List ℕ
  pub right : fits members
  pub listed : r.list ≡ entries n members
  pub counted : r.count ≡ length members

module _ (n : ℕ) (m part : List ℕ) where
  -- what `sort` answers: an order, or a cycle, that the graph shows
  abbrev pub Sorts : Shown → Type 0
  Sorts (Shown.Order r) = Lists n (Shows (suc n) (takes_part n part) (joined n m part) Shape.Order) r
  Sorts (Shown.Cycle r) = Lists n (Shows (suc n) (takes_part n part) (joined n m part) Shape.Cycle) r

  -- what `next` answers after the order v: the first later order, or none where there is none
  abbrev pub Follows : List ℕ → Option Members → Type 0
  Follows v (Some r) = Lists n (First dictionary (later (matrix_order n m part) v)) r
  Follows v None = Never (later (matrix_order n m part) v)
