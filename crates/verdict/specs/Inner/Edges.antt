-- The edges of a graph of transactions, drawn in rows of marks.
use Rattle.std.specs.Prelude.{◌≡◌, Bool, false, List, ℕ, ◌≤◌, length}
use Rattle.words.specs.Tests.{◌is◌, ◌and◌, ◌or◌, fails}
use Rattle.graph.specs.Matrix.{row_words, in_row}
use Rattle.verdict.specs.Limits.{transactions}

-- edges at writer 0 and from a transaction to itself are dropped
unfoldable pub kept : ℕ → ℕ → Bool
kept s t = fails (s is t) and fails (s is 0) and fails (t is 0)

-- the edge from s to t, if it is kept, leads from a to b
unfoldable pub one_edge : ℕ → ℕ → ℕ → ℕ → Bool
one_edge s t a b = kept s t and s is a and t is b

unfoldable pub no_edge : ℕ → ℕ → Bool
no_edge a b = false

-- all pairs of different transactions
abbrev pub Pair : ℕ → ℕ → Type 0
Pair a b = (a ≡ b → ⊥) × (1 ≤ a) × (a ≤ transactions) × (1 ≤ b) × (b ≤ transactions)

-- the rows of m' have the edge from s to t beside those of m
pub record EdgeAdded (m : List ℕ) (s t : ℕ) (m' : List ℕ) : Type 0 where
  pub size : length m' ≡ length m
  pub mark : (a b : ℕ) → Pair a b → in_row m' b a ≡ (in_row m b a or one_edge s t a b)

-- for all pairs at once: a is marked in the row of b exactly where an edge leads from a to b
pub record Drawn (edge : ℕ → ℕ → Bool) (m : List ℕ) : Type 0 where
  pub size : length m ≡ row_words
  pub mark : (a b : ℕ) → Pair a b → in_row m b a ≡ edge a b
