-- Dictionary order, and what it is to be the first of the lists that pass a test.
use Rattle.std.specs.Prelude.{◌≡◌, Bool, true, false, List, [], ◌∷◌, ℕ, length}
use Rattle.words.specs.Tests.{◌is◌, ◌below◌, ◌and◌, ◌or◌}

-- v comes before w in a dictionary of numbers; a list comes before any longer one that begins with it
unfoldable pub dictionary : List ℕ → List ℕ → Bool
dictionary v [] = false
dictionary [] (b ∷ w) = true
dictionary (a ∷ v) (b ∷ w) = a below b or (a is b and dictionary v w)

-- the shorter list first, and lists of one length in dictionary order
unfoldable pub shorter : List ℕ → List ℕ → Bool
shorter v w = length v below length w or (length v is length w and dictionary v w)

-- w is the first, in the order `earlier`, of the lists that pass
pub record First (earlier : List ℕ → List ℕ → Bool) (passes : List ℕ → Bool) (w : List ℕ) : Type 0 where
  pub one : passes w ≡ true
  pub none_earlier : (v : List ℕ) → passes v ≡ true → earlier v w ≡ false

-- no list passes
abbrev pub Never : (List ℕ → Bool) → Type 0
Never passes = (v : List ℕ) → passes v ≡ false

-- a list that passes and comes later than v
unfoldable pub later : (List ℕ → Bool) → List ℕ → List ℕ → Bool
later passes v w = passes w and dictionary v w
