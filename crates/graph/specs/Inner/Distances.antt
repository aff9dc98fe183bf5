-- How far each vertex is from one, by walks through higher ones, and the shortest cycle so found. Private contracts cite these.
use Rattle.std.specs.Prelude.{◌≡◌, Bool, List, [], ◌∷◌, ℕ, zero, suc, ◌≤◌, ◌<◌, length, Option, MatchOption}
use Rattle.words.specs.Tests.{◌is◌, ◌below◌, ◌and◌, some, lowest}
use Rattle.words.specs.First.{shorter, First}
use Rattle.graph.specs.Cycle.{is_cycle}
use Rattle.graph.specs.Matrix.{vertices, row_words, joined, in_row}
use Rattle.graph.specs.Inner.Laying.{laid}
use Rattle.graph.specs.declared.cycle.Ring.{Ring}

module _ (edge : ℕ → ℕ → Bool) where
  -- a walk leads from t back to s, with k nodes on the way, all of them above s
  unfoldable pub reach : ℕ → ℕ → ℕ → Bool
  reach s zero t = edge t s
  reach s (suc k) t = some (suc vertices) (λ u. s below u and edge t u and reach s k u)

  -- the lowest such way
  unfoldable pub pick : ℕ → ℕ → ℕ → List ℕ
  pick s zero t = []
  pick s (suc k) t = let u = lowest (suc vertices) (λ u. s below u and edge t u and reach s k u) in u ∷ pick s k u

  -- how many nodes the shortest walk from t back to s has on the way, of those with fewer than k; 128 where there is none
  unfoldable pub far : ℕ → ℕ → ℕ → ℕ
  far s k t = lowest vertices (λ j. j below k and reach s j t)

-- the rows 1 to k hold the vertices above s by how far each is from s: row 1 those with an edge to s
pub record Layers (edge : ℕ → ℕ → Bool) (s k : ℕ) (rows : List ℕ) : Type 0 where
  pub layer : (d t : ℕ) → d < k → in_row rows (suc d) t ≡ (s below t and far edge s vertices t is d)

-- the way around from s that was found, of those with fewer than k nodes on the way: it has d, and the layers in between lie in the rows
pub record Closed (edge : ℕ → ℕ → Bool) (s k d : ℕ) (rows : List ℕ) : Type 0 where
  pub short : d < k
  pub home : d ≡ far edge s k s
  pub passed : Layers edge s d rows

-- what is found on the way around from s by walks with fewer than k nodes
pub record Around (edge : ℕ → ℕ → Bool) (s k : ℕ) (found : Option ℕ) (rows : List ℕ) : Type 0 where
  pub size : length rows ≡ row_words
  pub way : MatchOption found (vertices ≡ far edge s k s) (λ d. Closed edge s k d rows)

-- of the closed walks from a vertex below `end` through higher ones, a shortest has k nodes on the way, and s is the lowest vertex that has such
-- a one; k is 128 where there is none
pub record Least (edge : ℕ → ℕ → Bool) (end k s : ℕ) : Type 0 where
  pub bound : k ≤ vertices
  pub home : k < vertices → (1 ≤ s) × (s < end) × (far edge s vertices s ≡ k)
  pub best : (t : ℕ) → t < end → 1 ≤ t → (k ≤ far edge t vertices t) × (far edge t vertices t ≡ k → k < vertices → s ≤ t)

-- the same of a ring; where none was found, there is no closed walk
abbrev pub LeastOf : (ℕ → ℕ → Bool) → ℕ → Option Ring → Type 0
LeastOf edge end found = MatchOption found (Least edge end vertices 0) (λ r. Least edge end r.len r.start)

-- what `cycle` finds and lays down: the first shortest cycle
pub record Cycled (m part list : List ℕ) (n : ℕ) (list' : List ℕ) : Type 0 where
  pub members : List ℕ
  pub first : First shorter (is_cycle (joined vertices m part)) members
  pub counted : n ≡ length members
  pub room : length members ≤ vertices
  pub lies : list' ≡ laid 0 members list
