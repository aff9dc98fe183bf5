-- The lowest number that passes one of two tests.
use mathlib.Core.Path.{◌≡◌, sym, ◌∙◌}
use mathlib.Core.Bool.{Bool, true, false}
use mathlib.Core.Logic.{◌⊎◌, inl, inr}
use Prim.Native.Nat.{ℕ, ◌≤◌, ◌<◌}
use native.Mathlib.Omega.{arith}
use Rattle.words.specs.Tests.{◌below◌, ◌upto◌, ◌or◌, provided◌then◌else◌, lowest}
use Rattle.words.proofs.Truth.{decide, →or_left, →or_right, or_false, upto→, not_upto→, below→, not_below→, provided_true, provided_false, →none, lowest_is, lowest_at, lowest_none, lowest_passes, lowest_bound, below_lowest}

module _ (n : ℕ) (p q : ℕ → Bool) where
  either : ℕ → Bool
  either i = p i or q i

  -- below both nothing passes
  neither : (i : ℕ) → i < lowest n p → i < lowest n q → either i ≡ false
  unfolding either
  neither i h k = or_false (below_lowest n p i h) ∙ below_lowest n q i k

  left_lower : lowest n p ≤ lowest n q → lowest n either ≡ lowest n p
  unfolding either
  left_lower h = go (decide (lowest n p below n))
    where
      go : ((lowest n p below n) ≡ true) ⊎ ((lowest n p below n) ≡ false) → lowest n either ≡ lowest n p
      go (inl k) = lowest_at either (lowest n p) (below→ k) (→or_left _ (lowest_is p (lowest_passes p (below→ k))).1) (λ (i : ℕ) (l : i < lowest n p). neither i l (omega arith))
      go (inr k) =
          let e : lowest n p ≡ n = omega (arith, not_below→ k, lowest_bound {n = n} p) in
          lowest_none either (→none either (λ (i : ℕ) (l : i < n). neither i (omega arith) (omega arith))) ∙ sym e

  right_lower : lowest n q < lowest n p → lowest n either ≡ lowest n q
  unfolding either
  right_lower h = lowest_at either (lowest n q) (omega (arith, lowest_bound {n = n} p)) (→or_right _ (lowest_is q (lowest_passes q (omega (arith, lowest_bound {n = n} p)))).1) (λ (i : ℕ) (l : i < lowest n q). neither i (omega arith) l)

  -- it is the lower of the two
  pub lowest_either : lowest n (λ i. p i or q i) ≡ (provided lowest n p upto lowest n q then lowest n p else lowest n q)
  unfolding either
  lowest_either = go (decide (lowest n p upto lowest n q))
    where
      go : ((lowest n p upto lowest n q) ≡ true) ⊎ ((lowest n p upto lowest n q) ≡ false) → lowest n either ≡ (provided lowest n p upto lowest n q then lowest n p else lowest n q)
      go (inl k) = left_lower (upto→ k) ∙ sym (provided_true _ _ k)
      go (inr k) = right_lower (not_upto→ k) ∙ sym (provided_false _ _ k)
