-- What is looked for among the vertices, the lowest first. Private contracts cite these.
use Rattle.std.specs.Prelude.{◌≡◌, Bool, true, false, List, ℕ, suc, ◌≤◌, Option, MatchOption}
use Rattle.words.specs.Tests.{some, lowest}
use Rattle.graph.specs.Matrix.{vertices, takes_part}
use Rattle.graph.specs.Inner.Peel.{unmarked}

-- v is the lowest vertex that passes
pub record IsLowest (passes : ℕ → Bool) (v : ℕ) : Type 0 where
  pub high : v ≤ vertices
  pub one : passes v ≡ true
  pub first : v ≡ lowest (suc vertices) passes

-- the lowest vertex that passes, or none where none does
abbrev pub LowestOf : (ℕ → Bool) → Option ℕ → Type 0
LowestOf passes found = MatchOption found (some (suc vertices) passes ≡ false) (λ v. IsLowest passes v)

-- v is the lowest vertex of those that were left, and the others are left
pub record Turn (left : List ℕ) (v : ℕ) (others : List ℕ) : Type 0 where
  pub low : 1 ≤ v
  pub high : v ≤ vertices
  pub one : takes_part vertices left v ≡ true
  pub first : v ≡ lowest (suc vertices) (takes_part vertices left)
  pub after : others ≡ unmarked v left

-- the lowest is given, or nothing where no vertex is left
abbrev pub GivesLowest : List ℕ → Option ℕ → List ℕ → Type 0
GivesLowest left given others = MatchOption given (some (suc vertices) (takes_part vertices left) ≡ false) (λ v. Turn left v others)
