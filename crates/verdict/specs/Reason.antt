-- Reasons on a cycle: with each member the dependency that leads to the following one. If several fit, it is the first.
use Rattle.std.specs.Prelude.{Bool, List, [], ◌∷◌, map, ℕ}
use Rattle.words.specs.Tests.{some, lowest}
use Rattle.verdict.specs.Limits.{objects}

-- an entry of a witness: a member, and the kind and the object of the dependency that leads on from it
pub record Entry : Type 0 where
  pub transaction : ℕ
  pub kind : ℕ
  pub object : ℕ

-- if several fit, the lowest object goes first, and on one object ww, wr, rw in that order, which is that of their numbers
unfoldable pub first_object : (ℕ → ℕ → Bool) → ℕ
first_object on = lowest objects (λ x. some 4 (λ k. on x k))

unfoldable pub first_kind : (ℕ → ℕ → Bool) → ℕ
first_kind on = lowest 4 (λ k. on (first_object on) k)

-- `on a b x k`: a dependency of kind k on object x leads from a to b
module _ (on : ℕ → ℕ → ℕ → ℕ → Bool) where
  -- a, with the reason that leads to b
  unfoldable pub leading : ℕ → ℕ → Entry
  leading a b = record { transaction = a; kind = first_kind (on a b); object = first_object (on a b) }

  -- each member leads to the following one, and the last to `home`
  unfoldable pub leading_on : ℕ → List ℕ → List Entry
  leading_on home [] = []
  leading_on home (a ∷ []) = leading a home ∷ []
  leading_on home (a ∷ b ∷ c) = leading a b ∷ leading_on home (b ∷ c)

  -- a cycle with its reasons: the last leads back to the first
  unfoldable pub with_reasons : List ℕ → List Entry
  with_reasons [] = []
  with_reasons (a ∷ c) = leading_on a (a ∷ c)

-- orders carry 0 for kind and object
unfoldable pub without_reasons : List ℕ → List Entry
without_reasons w = map (λ t. record { transaction = t; kind = 0; object = 0 }) w
