-- Orders as they are laid into an array, entry by entry. Private contracts cite these.
use Rattle.std.specs.Prelude.{◌≡◌, true, false, List, ℕ, suc, ◌+◌, length, Option, Some, None}
use Rattle.std.proofs.lemmas.List.Edits.{sets}
use Rattle.words.specs.Tests.{some}
use Rattle.words.specs.First.{dictionary, First, Never, later}
use Rattle.graph.specs.Matrix.{vertices, takes_part, joined, matrix_order}
use Rattle.graph.specs.Cycle.{is_cycle}

-- what an array holds once w was laid into it from place i on
unfoldable pub laid : ℕ → List ℕ → List ℕ → List ℕ
laid i w l = sets l i w

-- what `lay_down` does: it lays down `placed` from place i on, and ends where none of the `rest` may begin; no cycle goes through what was placed
pub record Places (m left : List ℕ) (i : ℕ) (list : List ℕ) (count : ℕ) (rest list' : List ℕ) : Type 0 where
  pub placed : List ℕ
  pub counted : count ≡ i + length placed
  pub lies : list' ≡ laid i placed list
  pub order : some (suc vertices) (takes_part vertices rest) ≡ false → First dictionary (matrix_order vertices m left) placed
  pub cycle : some (suc vertices) (takes_part vertices rest) ≡ true → (c : List ℕ) × (is_cycle (joined vertices m rest) c ≡ true)
  pub around : (c : List ℕ) → is_cycle (joined vertices m rest) c ≡ is_cycle (joined vertices m left) c

-- the first order later than v that was found, and laid down from place i on: n entries then stand
pub record Later (m left v : List ℕ) (i : ℕ) (list : List ℕ) (n : ℕ) (list' : List ℕ) : Type 0 where
  pub members : List ℕ
  pub first : First dictionary (later (matrix_order vertices m left) v) members
  pub counted : n ≡ i + length members
  pub lies : list' ≡ laid i members list

-- what `follow` finds later than v; where nothing is later, the list stays as it is
abbrev pub Followed : List ℕ → List ℕ → List ℕ → ℕ → List ℕ → Option ℕ → List ℕ → Type 0
Followed m left v i list (Some n) list' = Later m left v i list n list'
Followed m left v i list None list' = Never (later (matrix_order vertices m left) v) × (list' ≡ list)
