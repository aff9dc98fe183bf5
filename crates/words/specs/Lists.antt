-- Lists of numbers: members and their places, and a list as an array holds it.
use Rattle.std.specs.Prelude.{Bool, true, false, List, [], ◌∷◌, ◌++◌, ℕ, ◌-◌, length, replicate}
use Rattle.words.specs.Tests.{◌is◌, ◌and◌, ◌or◌, fails}

-- a is a member of w
unfoldable pub member : ℕ → List ℕ → Bool
member a [] = false
member a (t ∷ w) = a is t or member a w

-- every member of w passes
unfoldable pub all : (ℕ → Bool) → List ℕ → Bool
all p [] = true
all p (t ∷ w) = p t and all p w

-- the members of w are all different
unfoldable pub distinct : List ℕ → Bool
distinct [] = true
distinct (t ∷ w) = fails (member t w) and distinct w

-- b stands in w somewhere behind an a
unfoldable pub before : ℕ → ℕ → List ℕ → Bool
before a b [] = false
before a b (t ∷ w) = a is t and member b w or before a b w

-- n zeros
unfoldable pub zeros : ℕ → List ℕ
zeros n = replicate n 0

-- w as an array of n entries holds it: w first, and the remaining entries are 0
unfoldable pub entries : ℕ → List ℕ → List ℕ
entries n w = w ++ zeros (n - length w)
