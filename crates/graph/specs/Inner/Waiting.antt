-- Who may come next, and for whom the others wait. Private contracts cite these.
use Rattle.std.specs.Prelude.{◌≡◌, true, false, ◌⊎◌, List, ℕ, length, replicate}
use Rattle.graph.specs.Matrix.{vertices, row_words, takes_part, joined, in_row}
use Rattle.graph.specs.Inner.Peel.{may_begin}

-- the set without any vertex
unfoldable pub nobody : List ℕ
nobody = replicate 2 0

-- of the vertices that are left, all are settled but those to do: each is ready, and then it may come next, or waits for one from which an edge leads to it
pub record Settled (m left wait ready todo : List ℕ) : Type 0 where
  pub size : length wait ≡ row_words
  pub two : length todo ≡ 2
  pub those : (t : ℕ) → takes_part vertices todo t ≡ true → takes_part vertices left t ≡ true
  pub may : (t : ℕ) → takes_part vertices ready t ≡ true → may_begin m left t ≡ true
  pub waits : (t : ℕ) → takes_part vertices left t ≡ true → takes_part vertices todo t ≡ false
      → (takes_part vertices ready t ≡ true) ⊎ ((w : ℕ) × (joined vertices m left w t ≡ true) × (in_row wait w t ≡ true))
