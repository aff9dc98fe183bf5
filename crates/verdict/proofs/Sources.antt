-- What the marks of the versions tell of a read: whether its source has one of its object, and whether it comes after its own write.
use mathlib.Core.Path.{◌≡◌, sym, ◌∙◌}
use mathlib.Core.Bool.{Bool, true, false}
use mathlib.Core.Logic.{inl, inr, ⊎_elim}
use mathlib.Core.List.{List}
use Prim.Native.Nat.{ℕ}
use native.Mathlib.Omega.{arith}
use lib.ListN.{get_or}
use Rattle.words.specs.Tests.{◌is◌, ◌or◌}
use Rattle.words.proofs.Truth.{not_both, to_false, or→, →or_left, →or_right, or_false, is→, →is, →isnt}
use Rattle.bits.specs.Word.{marked}
use Rattle.verdict.specs.Log.{kind, tx, obj, src, wrote}
use Rattle.verdict.specs.Refusal.{source_refusal}
use Rattle.verdict.specs.Clean.{after_own_write}
use Rattle.verdict.specs.Inner.Checking.{InRange}
use Rattle.verdict.specs.Inner.WriteTable.{Versions}
use Rattle.verdict.specs.Answers.{Passed, Refused}
use Rattle.verdict.proofs.WellFormed.{tx_within, object_within, source_within}
use Rattle.verdict.proofs.Numbers.{never_wrote, source_there}

module _ (log : List ℕ) (i : ℕ) {w : List ℕ} (versions : Versions log i w) (within : InRange log i) (read : kind log i ≡ 2) {r v : Bool} {u x : ℕ} (object : x ≡ obj log i) where
  pub by_source : u ≡ src log i → r ≡ marked (get_or w u 0) x → r ≡ v → (src log i is 0 or wrote log i (src log i) (obj log i)) ≡ v
  by_source a e q = sym (versions.mark (src log i) (obj log i) (source_within log i within read) (object_within log i within)) ∙ sym (rw (a, object) at e) ∙ q

  pub by_reader : u ≡ tx log i → r ≡ marked (get_or w u 0) x → r ≡ v → after_own_write log i ≡ v
  unfolding after_own_write
  by_reader a e q =
      sym (versions.mark (tx log i) (obj log i) (tx_within log i within).1 (object_within log i within) ∙ or_false (→isnt (λ z. omega (arith, z, (tx_within log i within).0))))
      ∙ sym (rw (a, object) at e) ∙ q

-- the source has a version of the object, or none
module _ (log : List ℕ) (i : ℕ) where
  pub there : kind log i ≡ 2 → (src log i is 0 or wrote log i (src log i) (obj log i)) ≡ true → source_refusal log i ≡ Passed
  there read h = source_there log i read (⊎_elim (λ z. inl (is→ z)) (λ z. inr z) (or→ h))

  pub not_there : kind log i ≡ 2 → (src log i is 0 or wrote log i (src log i) (obj log i)) ≡ false → source_refusal log i ≡ Refused 9 i
  not_there read n = never_wrote log i read (λ z. not_both (→or_left _ (→is z)) n) (to_false _ (λ z. not_both (→or_right _ z) n))
