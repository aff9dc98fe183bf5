-- Ways along the edges of a graph, and what `reaches` says of them.
use Rattle.std.specs.Prelude.{◌≡◌, Bool, true, false, List, ℕ}
use Rattle.graph.specs.Matrix.{vertices, takes_part, in_row}

-- a way along edges from a to b, of no edge or more
pub data Way (edge : ℕ → ℕ → Bool) : ℕ → ℕ → Type 0 where
  stay : {a : ℕ} → Way edge a a
  onward : {a b c : ℕ} → edge a b ≡ true → Way edge b c → Way edge a c

-- the edges of rows: a is marked in the row of b
unfoldable pub row_edge : List ℕ → ℕ → ℕ → Bool
row_edge m a b = in_row m b a

-- what `reaches` answers: whether a way leads from one of `from` to one of `to`
pub record Reaches (m from to : List ℕ) (r : Bool) : Type 0 where
  pub found : r ≡ true → (a : ℕ) × (b : ℕ) × (takes_part vertices from a ≡ true) × (takes_part vertices to b ≡ true) × Way (row_edge m) a b
  pub none : r ≡ false → (a b : ℕ) → takes_part vertices from a ≡ true → takes_part vertices to b ≡ true → Way (row_edge m) a b → ⊥
