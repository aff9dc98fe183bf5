-- Which steps are judged reads from another.
use mathlib.Core.Path.{◌≡◌, ◌∙◌}
use mathlib.Core.Bool.{true, false}
use mathlib.Core.List.{List}
use Prim.Native.Nat.{ℕ}
use Rattle.words.proofs.Truth.{is→, and→, →and, and_true, and_true_right, and_no_left, and_no_right, →fails, →not_fails, →is, →isnt}
use Rattle.verdict.specs.Log.{kind, tx, src, reads, committed}
use Rattle.verdict.specs.Clean.{judged, judged_other}

module _ (log : List ℕ) (i : ℕ) where
  pub is_read : judged_other log i ≡ true → kind log i ≡ 2
  unfolding judged_other judged reads
  is_read j = is→ (and→ (and→ j).0).0

  pub other_kind : (kind log i ≡ 2 → ⊥) → judged_other log i ≡ false
  unfolding judged_other judged reads
  other_kind k = and_no_left _ (and_no_left _ (→isnt k))

  pub own_source : src log i ≡ tx log i → judged_other log i ≡ false
  unfolding judged_other
  own_source e = and_no_right _ (→not_fails (→is e))

  pub reader_fails : committed log (tx log i) ≡ false → judged_other log i ≡ false
  unfolding judged_other judged
  reader_fails c = and_no_left _ (and_no_right _ c)

  pub judged_read : kind log i ≡ 2 → (src log i ≡ tx log i → ⊥) → committed log (tx log i) ≡ true → judged_other log i ≡ true
  unfolding judged_other judged reads
  judged_read k n c = →and (→and (→is k) c) (→fails (→isnt n))

  -- a read from another is judged where its reader committed
  pub if_committed : kind log i ≡ 2 → (src log i ≡ tx log i → ⊥) → judged_other log i ≡ committed log (tx log i)
  unfolding judged_other judged reads
  if_committed k n = and_true_right _ (→fails (→isnt n)) ∙ and_true (→is k)
