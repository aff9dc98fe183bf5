-- The lowest number from a bound on that passes.
use mathlib.Core.Path.{◌≡◌, refl}
use mathlib.Core.Bool.{Bool, true, false}
use mathlib.Core.Logic.{◌⊎◌, inl, inr}
use Prim.Native.Nat.{ℕ, zero, suc, ◌≤◌, ◌<◌}
use native.Mathlib.Omega.{arith}
use Rattle.words.specs.Tests.{◌is◌, ◌upto◌, ◌and◌, lowest}
use Rattle.words.proofs.Truth.{decide, not_both, same_test, and→, →and, and_no_left, and_true, is→, isnt→, upto→, →upto, →not_upto, →none, some_same, lowest_at, lowest_none}

-- tests that agree below n
pub lowest_same : (n : ℕ) (p q : ℕ → Bool) → ((i : ℕ) → i < n → p i ≡ q i) → lowest n p ≡ lowest n q
unfolding lowest
lowest_same zero p q f = refl
lowest_same (suc n) p q f =
    rw (lowest_same n p q (λ (i : ℕ) (h : i < n). f i (omega arith)), some_same n p q (λ (i : ℕ) (h : i < n). f i (omega arith)), f n (omega arith)) refl

module _ (n : ℕ) (p : ℕ → Bool) where
  -- from j on, where j passes
  pub from_here : (j : ℕ) → j < n → p j ≡ true → lowest n (λ i. j upto i and p i) ≡ j
  from_here j h k = lowest_at (λ i. j upto i and p i) j h (→and (→upto (omega arith)) k) (λ (i : ℕ) (l : i < j). and_no_left _ (→not_upto l))

  -- .. and where it does not
  pub from_next : (j : ℕ) → p j ≡ false → lowest n (λ i. j upto i and p i) ≡ lowest n (λ i. suc j upto i and p i)
  from_next j k =
      lowest_same n (λ i. j upto i and p i) (λ i. suc j upto i and p i)
      (λ (i : ℕ) (l : i < n). same_test (λ h. let r = and→ h in →and (further i (upto→ r.0) r.1 (decide (i is j))) r.1) (λ h. let r = and→ h in let q : suc j ≤ i = upto→ r.0 in →and (→upto (omega arith)) r.1))
    where
      further : (i : ℕ) → j ≤ i → p i ≡ true → ((i is j) ≡ true) ⊎ ((i is j) ≡ false) → (suc j upto i) ≡ true
      further i h q (inl e) = let z : i ≡ j = is→ e in absurd (not_both (rw z at q) k)
      further i h q (inr e) = let z : i ≡ j → ⊥ = isnt→ e in →upto (omega arith)

  -- there is none from the end on, and all are from 0 on
  pub from_end : (j : ℕ) → n ≤ j → lowest n (λ i. j upto i and p i) ≡ n
  from_end j h = lowest_none (λ i. j upto i and p i) (→none (λ i. j upto i and p i) (λ (i : ℕ) (l : i < n). and_no_left _ (→not_upto (omega arith))))

  pub from_first : lowest n (λ i. 0 upto i and p i) ≡ lowest n p
  from_first = lowest_same n (λ i. 0 upto i and p i) p (λ (i : ℕ) (l : i < n). and_true (→upto (omega arith)))
