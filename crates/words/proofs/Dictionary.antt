-- Dictionary order is a strict order of all lists, so "the first" is one.
use mathlib.Core.Path.{◌≡◌, refl, sym, ◌∙◌}
use mathlib.Core.Bool.{Bool, true, false, true≢false, false≢true}
use mathlib.Core.Logic.{◌⊎◌, inl, inr, ⊎_elim}
use mathlib.Core.List.{List, [], ◌∷◌}
use Prim.Native.Nat.{ℕ, ◌≤◌, ◌<◌}
use native.Mathlib.Omega.{arith}
use lib.ListN.{length}
use Rattle.words.specs.Tests.{◌is◌, ◌below◌, ◌and◌, ◌or◌}
use Rattle.words.specs.First.{dictionary, shorter, First}
use Rattle.words.proofs.Truth.{decide, not_both, to_false, and→, →and, or→, →or_left, →or_right, is→, →is, below→, →below, not_below→}

-- two lists neither of which comes before the other are one
pub dictionary_same : (v w : List ℕ) → dictionary v w ≡ false → dictionary w v ≡ false → v ≡ w
unfolding dictionary
dictionary_same [] [] p q = refl
dictionary_same [] (b ∷ w) p q = absurd (true≢false p)
dictionary_same (a ∷ v) [] p q = absurd (true≢false q)
dictionary_same (a ∷ v) (b ∷ w) p q = go (decide (a below b)) (decide (b below a)) (dictionary_same v w)
  where
    go : ((a below b) ≡ true) ⊎ ((a below b) ≡ false) → ((b below a) ≡ true) ⊎ ((b below a) ≡ false)
        → (dictionary v w ≡ false → dictionary w v ≡ false → v ≡ w) → a ∷ v ≡ b ∷ w
    go (inl c) d rec = absurd (not_both (→or_left _ c) p)
    go (inr c) (inl d) rec = absurd (not_both (→or_left _ d) q)
    go (inr c) (inr d) rec =
        let e : a ≡ b = omega (arith, not_below→ c, not_below→ d) in
        let f : v ≡ w = rec (to_false _ (λ h. not_both (→or_right _ (→and (→is e) h)) p)) (to_false _ (λ h. not_both (→or_right _ (→and (→is (sym e)) h)) q)) in
        cc

pub shorter_same : (v w : List ℕ) → shorter v w ≡ false → shorter w v ≡ false → v ≡ w
unfolding shorter
shorter_same v w p q = go (decide (length v below length w)) (decide (length w below length v))
  where
    go : ((length v below length w) ≡ true) ⊎ ((length v below length w) ≡ false) → ((length w below length v) ≡ true) ⊎ ((length w below length v) ≡ false) → v ≡ w
    go (inl c) d = absurd (not_both (→or_left _ c) p)
    go (inr c) (inl d) = absurd (not_both (→or_left _ d) q)
    go (inr c) (inr d) =
        let e : length v ≡ length w = omega (arith, not_below→ c, not_below→ d) in
        dictionary_same v w (to_false _ (λ h. not_both (→or_right _ (→and (→is e) h)) p)) (to_false _ (λ h. not_both (→or_right _ (→and (→is (sym e)) h)) q))

-- so what is first in either order is one list
pub first_one : (earlier : List ℕ → List ℕ → Bool) → ((v w : List ℕ) → earlier v w ≡ false → earlier w v ≡ false → v ≡ w)
    → (passes : List ℕ → Bool) (v w : List ℕ) → First earlier passes v → First earlier passes w → v ≡ w
first_one earlier same passes v w p q = same v w (q.none_earlier v p.one) (p.none_earlier w q.one)

-- what comes before another is lower at the first place, or the same there and before it in what follows
pub dictionary→ : (a b : ℕ) (v w : List ℕ) → dictionary (a ∷ v) (b ∷ w) ≡ true → (a < b) ⊎ ((a ≡ b) × (dictionary v w ≡ true))
unfolding dictionary
dictionary→ a b v w h = ⊎_elim (λ k. inl (below→ k)) (λ k. inr (is→ (and→ k).0, (and→ k).1)) (or→ h)

pub dictionary_head : (a b : ℕ) (v w : List ℕ) → a < b → dictionary (a ∷ v) (b ∷ w) ≡ true
unfolding dictionary
dictionary_head a b v w h = →or_left _ (→below h)

pub dictionary_tail : (a : ℕ) (v w : List ℕ) → dictionary v w ≡ true → dictionary (a ∷ v) (a ∷ w) ≡ true
unfolding dictionary
dictionary_tail a v w h = →or_right _ (→and (→is refl) h)

pub dictionary_not : (a c : ℕ) (v u : List ℕ) → c ≤ a → (a ≡ c → dictionary v u ≡ false) → dictionary (a ∷ v) (c ∷ u) ≡ false
unfolding dictionary
dictionary_not a c v u h f =
    to_false _ (λ k. ⊎_elim (λ (l : (a below c) ≡ true). let z : a < c = below→ l in omega arith) (λ l. not_both (and→ l).1 (f (is→ (and→ l).0))) (or→ k))

pub shorter_not : (v w : List ℕ) → length w ≤ length v → (length v ≡ length w → dictionary v w ≡ false) → shorter v w ≡ false
unfolding shorter
shorter_not v w h f =
    to_false _ (λ k. ⊎_elim (λ (l : (length v below length w) ≡ true). let z : length v < length w = below→ l in omega arith) (λ l. not_both (and→ l).1 (f (is→ (and→ l).0))) (or→ k))

-- of two lists at most one comes before the other
pub dictionary_asym : (v w : List ℕ) → dictionary v w ≡ true → dictionary w v ≡ false
unfolding dictionary
dictionary_asym v [] h = absurd (false≢true h)
dictionary_asym [] (b ∷ w) h = refl
dictionary_asym (a ∷ v) (b ∷ w) h =
    ⊎_elim (λ (l : (a below b) ≡ true). let z : a < b = below→ l in dictionary_not b a w v (omega arith) (λ (e : b ≡ a). absurd (omega arith)))
    (λ (l : (a is b and dictionary v w) ≡ true). let e : a ≡ b = is→ (and→ l).0 in dictionary_not b a w v (omega arith) (λ _. dictionary_asym v w (and→ l).1)) (or→ h)

pub shorter_asym : (v w : List ℕ) → shorter v w ≡ true → shorter w v ≡ false
unfolding shorter
shorter_asym v w h =
    ⊎_elim (λ (l : (length v below length w) ≡ true). let z : length v < length w = below→ l in shorter_not w v (omega arith) (λ (e : length w ≡ length v). absurd (omega arith)))
    (λ (l : (length v is length w and dictionary v w) ≡ true). let e : length v ≡ length w = is→ (and→ l).0 in shorter_not w v (omega arith) (λ _. dictionary_asym v w (and→ l).1)) (or→ h)

pub dictionary_trans : (u v w : List ℕ) → dictionary u v ≡ true → dictionary v w ≡ true → dictionary u w ≡ true
unfolding dictionary
dictionary_trans u [] w h k = absurd (false≢true h)
dictionary_trans u (b ∷ v) [] h k = absurd (false≢true k)
dictionary_trans [] (b ∷ v) (c ∷ w) h k = refl
dictionary_trans (a ∷ u) (b ∷ v) (c ∷ w) h k = go (or→ h) (or→ k) (dictionary_trans u v w)
  where
    go : ((a below b) ≡ true) ⊎ ((a is b and dictionary u v) ≡ true) → ((b below c) ≡ true) ⊎ ((b is c and dictionary v w) ≡ true)
        → (dictionary u v ≡ true → dictionary v w ≡ true → dictionary u w ≡ true) → (a below c or (a is c and dictionary u w)) ≡ true
    go (inl p) (inl q) rec = let x : a < b = below→ p in let y : b < c = below→ q in →or_left _ (→below (omega arith))
    go (inl p) (inr q) rec = let x : a < b = below→ p in let y : b ≡ c = is→ (and→ q).0 in →or_left _ (→below (omega arith))
    go (inr p) (inl q) rec = let x : a ≡ b = is→ (and→ p).0 in let y : b < c = below→ q in →or_left _ (→below (omega arith))
    go (inr p) (inr q) rec = →or_right _ (→and (→is (is→ (and→ p).0 ∙ is→ (and→ q).0)) (rec (and→ p).1 (and→ q).1))
