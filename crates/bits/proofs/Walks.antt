-- A walk over the marks of a number, the lowest first: each mark is taken away when it has had its turn.
use mathlib.Core.Path.{◌≡◌, refl, sym, ◌∙◌}
use mathlib.Core.Bool.{Bool, true, false}
use mathlib.Core.Logic.{◌⊎◌, inl, inr}
use Prim.Native.Nat.{ℕ, ◌<◌}
use native.Mathlib.Omega.{arith}
use Rattle.words.specs.Tests.{◌is◌, ◌and◌, fails, some, count, lowest}
use Rattle.words.proofs.Truth.{decide, not_both, same_test, and→, →and, and_true_right, and_no_right, is→, →is, →fails, →not_fails, some→, →some, count_same, count_without, lowest_is}
use Rattle.bits.specs.Word.{marked, less}
use Rattle.bits.specs.Walk.{Turn}
use Rattle.bits.proofs.Marks.{marked_less}

-- the one whose turn it is
pub turn : (left : ℕ) {y : ℕ} → some 64 (marked left) ≡ true → y ≡ lowest 64 (marked left) → (y < 64) × (marked left y ≡ true)
turn left h e = let r = lowest_is {n = 64} (marked left) h in rw e (r.0, r.1)

pub turn_of : (left y others : ℕ) → some 64 (marked left) ≡ true → y ≡ lowest 64 (marked left) → others ≡ less left y → Turn left y others
turn_of left y others h e f = let t = turn left h e in record { size = t.0; mark = t.1; first = e; after = f }

-- the walk ends: fewer are left
pub fewer : (left y : ℕ) → y < 64 → marked left y ≡ true → count 64 (marked (less left y)) < count 64 (marked left)
fewer left y h k =
    let e : count 64 (marked (less left y)) ≡ count 64 (λ z. marked left z and fails (z is y)) = count_same 64 (marked (less left y)) (λ z. marked left z and fails (z is y)) (λ z l. marked_less left y z) in
    omega (arith, count_without 64 (marked left) y h k)

pub turn_fewer : {left y others : ℕ} → Turn left y others → count 64 (marked others) < count 64 (marked left)
turn_fewer {left} {y} t = rw t.after (fewer left y t.size t.mark)

-- it is not marked any more, and the others are as before
pub turned : (left y : ℕ) → marked (less left y) y ≡ false
turned left y = marked_less left y y ∙ and_no_right _ (→not_fails (→is refl))

pub unturned : (left y z : ℕ) → (z is y) ≡ false → marked (less left y) z ≡ marked left z
unturned left y z e = marked_less left y z ∙ and_true_right _ (→fails e)

-- a question over the marks, which the one whose turn it is does not pass
pub asked : (left y : ℕ) (q : ℕ → Bool) → q y ≡ false → some 64 (λ z. marked (less left y) z and q z) ≡ some 64 (λ z. marked left z and q z)
asked left y q n =
    same_test (λ h. let r = some→ h in let a = and→ r.2 in →some _ r.0 r.1 (→and (and→ (sym (marked_less left y r.0) ∙ a.0)).0 a.1))
    (λ h. let r = some→ h in let a = and→ r.2 in →some _ r.0 r.1 (→and (stays r.0 a.0 a.1 (decide (r.0 is y))) a.1))
  where
    stays : (z : ℕ) → marked left z ≡ true → q z ≡ true → ((z is y) ≡ true) ⊎ ((z is y) ≡ false) → marked (less left y) z ≡ true
    stays z m h (inl e) = let w : z ≡ y = is→ e in absurd (not_both (rw w at h) n)
    stays z m h (inr e) = unturned left y z e ∙ m

pub asked_turn : {left y others : ℕ} → Turn left y others → (q : ℕ → Bool) → q y ≡ false → some 64 (λ z. marked others z and q z) ≡ some 64 (λ z. marked left z and q z)
asked_turn {left} {y} t q n = rw t.after (asked left y q n)
