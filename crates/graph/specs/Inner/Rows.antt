-- Rows of marks, and how one is put among them. Private contracts cite these.
use Rattle.std.specs.Prelude.{◌≡◌, List, ℕ, length}
use Rattle.words.specs.Tests.{◌is◌, provided◌then◌else◌}
use Rattle.graph.specs.Matrix.{vertices, takes_part, in_row}

-- what `put_row` does to rows: the row of b is the set
pub record PutRow (m set : List ℕ) (b : ℕ) (m' : List ℕ) : Type 0 where
  pub size : length m' ≡ length m
  pub each : (c a : ℕ) → in_row m' c a ≡ (provided c is b then takes_part vertices set a else in_row m c a)
