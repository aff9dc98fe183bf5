-- The words of a reason, by its kind.
use mathlib.Core.Path.{◌≡◌, ◌∙◌}
use mathlib.Core.List.{[], ◌++◌}
use Prim.Native.Nat.{ℕ}
use native.Mathlib.Omega.{arith}
use Rattle.words.proofs.Truth.{→is, →isnt, provided_true, provided_false}
use Rattle.text.specs.Bytes.{bytes}
use Rattle.text.specs.Decimal.{decimal}
use Rattle.text.specs.ReportLine.{reason}

module _ (k x : ℕ) where
  pub reason_ww : k ≡ 1 → reason k x ≡ bytes " ww:" ++ decimal x
  unfolding reason
  reason_ww e = provided_true _ _ (→is e)

  pub reason_wr : k ≡ 2 → reason k x ≡ bytes " wr:" ++ decimal x
  unfolding reason
  reason_wr e = provided_false _ _ (→isnt (λ (z : k ≡ 1). omega arith)) ∙ provided_true _ _ (→is e)

  pub reason_rw : k ≡ 3 → reason k x ≡ bytes " rw:" ++ decimal x
  unfolding reason
  reason_rw e = provided_false _ _ (→isnt (λ (z : k ≡ 1). omega arith)) ∙ provided_false _ _ (→isnt (λ (z : k ≡ 2). omega arith)) ∙ provided_true _ _ (→is e)

  pub reason_none : (k ≡ 1 → ⊥) → (k ≡ 2 → ⊥) → (k ≡ 3 → ⊥) → reason k x ≡ []
  unfolding reason
  reason_none a b c = provided_false _ _ (→isnt a) ∙ provided_false _ _ (→isnt b) ∙ provided_false _ _ (→isnt c)
