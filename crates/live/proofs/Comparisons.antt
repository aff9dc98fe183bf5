-- Those of some objects of which two rows see the same: a walk over them that drops those that differ.
use mathlib.Core.Path.{◌≡◌, refl, sym, ap, ◌∙◌}
use mathlib.Core.Bool.{Bool, true, false}
use mathlib.Core.Logic.{◌⊎◌, inl, inr}
use mathlib.Core.List.{List}
use Prim.Native.Nat.{ℕ, ◌<◌}
use Rattle.words.specs.Tests.{◌is◌, ◌and◌, ◌or◌, fails, provided◌then◌else◌, some}
use Rattle.words.proofs.Truth.{decide, same_test, and→, →and, and_no_right, →or_left, →or_right, or_false, is→, provided_true, provided_false, none→, some_same}
use Rattle.bits.specs.Word.{marked, less}
use Rattle.bits.proofs.Marks.{marked_less}
use Rattle.bits.proofs.Walks.{turned, unturned}
use Rattle.live.specs.Inner.Table.{sees_at, writes_at}

-- of those marked, the ones left are still to be compared, and the others are the same
pub record Compared (marks : ℕ) (eq : ℕ → Bool) (same left : ℕ) : Type 0 where
  pub kept : (z : ℕ) → z < 64 → marked same z ≡ (marked marks z and (marked left z or eq z))
  pub part : (z : ℕ) → marked left z ≡ true → marked marks z ≡ true

pub compared_none : (marks : ℕ) (eq : ℕ → Bool) → Compared marks eq marks marks
compared_none marks eq = record { kept = λ z l. same_test (λ h. →and h (→or_left _ h)) (λ h. (and→ h).0); part = λ z h. h }

module _ {marks same left : ℕ} {eq : ℕ → Bool} (c : Compared marks eq same left) (y : ℕ) where
  pub compared_more : (a b : ℕ) → eq y ≡ (a is b) → Compared marks eq (provided a is b then same else less same y) (less left y)
  compared_more a b e = record { kept = λ z l. go (decide (a is b)) z l (decide (z is y)); part = λ z h. c.part z (and→ (sym (marked_less left y z) ∙ h)).0 }
    where
      at_turn : (z : ℕ) → (z is y) ≡ true → (marked marks z and (marked (less left y) z or eq z)) ≡ (marked marks z and (a is b))
      at_turn z f =
          let q : z ≡ y = is→ f in
          ap (λ (r : Bool). marked marks z and r) (or_false (rw q (turned left y)) ∙ rw q e)

      others : (z : ℕ) → z < 64 → (z is y) ≡ false → marked same z ≡ (marked marks z and (marked (less left y) z or eq z))
      others z l f = c.kept z l ∙ ap (λ (r : Bool). marked marks z and (r or eq z)) (sym (unturned left y z f))

      go : ((a is b) ≡ true) ⊎ ((a is b) ≡ false) → (z : ℕ) → z < 64 → ((z is y) ≡ true) ⊎ ((z is y) ≡ false) → marked (provided a is b then same else less same y) z ≡ (marked marks z and (marked (less left y) z or eq z))
      go (inl d) z l (inl f) =
          let q : z ≡ y = is→ f in
          let w : eq z ≡ true = rw q (e ∙ d) in
          rw (provided_true same (less same y) d) (c.kept z l ∙ ap (λ (r : Bool). marked marks z and r) (→or_right _ w) ∙ sym (at_turn z f ∙ ap (λ (r : Bool). marked marks z and r) d))
      go (inl d) z l (inr f) = rw (provided_true same (less same y) d) (others z l f)
      go (inr d) z l (inl f) =
          let q : z ≡ y = is→ f in
          rw (provided_false same (less same y) d) (rw q (turned same y) ∙ sym (at_turn z f ∙ and_no_right _ d))
      go (inr d) z l (inr f) = rw (provided_false same (less same y) d) (unturned same y z f ∙ others z l f)

  pub compared_all : some 64 (marked left) ≡ false → (z : ℕ) → z < 64 → marked same z ≡ (marked marks z and eq z)
  compared_all n z l = c.kept z l ∙ ap (λ (b : Bool). marked marks z and b) (or_false (none→ (marked left) n z l))

-- whether p and q see something else of an object that p writes
pub differs_found : (rows marks : List ℕ) (p same rest : ℕ) {w : ℕ} {r : Bool} → w ≡ writes_at marks p → ((x : ℕ) → x < 64 → marked same x ≡ (marked w x and sees_at rows 0 x is sees_at rows p x))
    → ((x : ℕ) → marked rest x ≡ (marked w x and fails (marked same x))) → r ≡ some 64 (marked rest) → r ≡ some 64 (λ x. marked (writes_at marks p) x and fails (sees_at rows 0 x is sees_at rows p x))
differs_found rows marks p same rest {w} e f g h = h ∙ some_same 64 (marked rest) _ (λ x l. g x ∙ rw (f x l, e) (go (marked (writes_at marks p) x) (sees_at rows 0 x is sees_at rows p x)))
  where
    go : (m q : Bool) → (m and fails (m and q)) ≡ (m and fails q)
    go true q = unfold ◌and◌ in refl
    go false q = unfold ◌and◌ in refl
