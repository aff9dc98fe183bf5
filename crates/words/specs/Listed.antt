-- A list of lists that has every list that passes a test, once each, in dictionary order.
use Rattle.std.specs.Prelude.{◌≡◌, Bool, true, List, [], ◌∷◌, ℕ}
use Rattle.words.specs.First.{dictionary}

-- w is one of ws
pub data Among (w : List ℕ) : List (List ℕ) → Type 0 where
  here : {ws : List (List ℕ)} → Among w (w ∷ ws)
  further : {v : List ℕ} {ws : List (List ℕ)} → Among w ws → Among w (v ∷ ws)

-- each of ws comes earlier than all that stand behind it, so none is there twice
pub data Rises (earlier : List ℕ → List ℕ → Bool) : List (List ℕ) → Type 0 where
  rises_none : Rises earlier []
  rises_more : {w : List ℕ} {ws : List (List ℕ)} → ((v : List ℕ) → Among v ws → earlier w v ≡ true) → Rises earlier ws → Rises earlier (w ∷ ws)

-- ws has the lists that pass and no others, each once, in dictionary order
pub record Listed (passes : List ℕ → Bool) (ws : List (List ℕ)) : Type 0 where
  pub only : (w : List ℕ) → Among w ws → passes w ≡ true
  pub every : (w : List ℕ) → passes w ≡ true → Among w ws
  pub rises : Rises dictionary ws
