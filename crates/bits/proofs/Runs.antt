-- Laws of marks in a run of words.
use mathlib.Core.Path.{◌≡◌, refl, sym, ap, ap₂, ◌∙◌}
use mathlib.Core.Bool.{Bool, true, false}
use mathlib.Core.Logic.{◌⊎◌, inl, inr}
use mathlib.Core.List.{List}
use Prim.Native.Nat.{ℕ, zero, suc, ◌+◌, ◌*◌, ◌/◌, ◌%◌, ◌<◌}
use native.Mathlib.Omega.{arith}
use lib.ListN.{length, get_or, set, replicate}
use lib.Seq.{get_or-set_same, get_or-set_other}
use Rattle.words.specs.Tests.{◌is◌, ◌and◌, ◌or◌, fails}
use Rattle.words.proofs.Truth.{decide, same_test, is→, isnt→, →is, →isnt, →fails, or_false, and_true_right}
use Rattle.bits.specs.Word.{marked, more}
use Rattle.bits.specs.Run.{bit, without_bit}
use Rattle.bits.proofs.Marks.{no_mark, marked_more, marked_less}

-- x of word t
pub bit_at : (words : List ℕ) (t x : ℕ) → x < 64 → bit words (t * 64 + x) ≡ marked (get_or words t 0) x
unfolding bit
bit_at words t x h =
    let a : (t * 64 + x) / 64 ≡ t = omega arith in
    let b : (t * 64 + x) % 64 ≡ x = omega arith in
    ap₂ (λ (u y : ℕ). marked (get_or words u 0) y) a b

-- what a word does to its marks, the run does to its own
module _ (words : List ℕ) (k : ℕ) (h : k / 64 < length words) where
  same_bit : (j : ℕ) → j / 64 ≡ k / 64 → (j % 64 is k % 64) ≡ (j is k)
  same_bit j e = same_test (λ q. let z : j % 64 ≡ k % 64 = is→ q in →is (omega arith)) (λ q. let z : j ≡ k = is→ q in →is (ap (λ (n : ℕ). n % 64) z))

  bit_stored : (f : Bool → Bool → Bool) (r : ℕ) → ((b : Bool) → f false b ≡ b) → ((y : ℕ) → marked r y ≡ f (y is k % 64) (marked (get_or words (k / 64) 0) y))
      → (j : ℕ) → bit (set words (k / 64) r) j ≡ f (j is k) (bit words j)
  unfolding bit
  bit_stored f r g m j = go (decide (j / 64 is k / 64))
    where
      go : ((j / 64 is k / 64) ≡ true) ⊎ ((j / 64 is k / 64) ≡ false) → bit (set words (k / 64) r) j ≡ f (j is k) (bit words j)
      go (inl q) =
          let e : j / 64 ≡ k / 64 = is→ q in
          rw (e, get_or-set_same words (k / 64) r 0 h) (m (j % 64) ∙ ap (λ (s : Bool). f s (marked (get_or words (k / 64) 0) (j % 64))) (same_bit j e))
      go (inr q) =
          let n : (j is k) ≡ false = →isnt (λ (e : j ≡ k). isnt→ q (ap (λ (i : ℕ). i / 64) e)) in
          rw (get_or-set_other words (k / 64) (j / 64) r 0 (isnt→ q)) (sym (ap (λ (s : Bool). f s (bit words j)) n ∙ g (bit words j)))

  pub bit_more : (j : ℕ) → bit (set words (k / 64) (more (get_or words (k / 64) 0) (k % 64))) j ≡ (j is k or bit words j)
  bit_more = bit_stored (λ s b. s or b) _ (λ b. or_false refl) (marked_more (get_or words (k / 64) 0) (k % 64))

  pub bit_less : (j : ℕ) → bit (without_bit words k) j ≡ (bit words j and fails (j is k))
  unfolding without_bit
  bit_less = bit_stored (λ s b. b and fails s) _ (λ b. and_true_right b (→fails refl)) (marked_less (get_or words (k / 64) 0) (k % 64))

-- words of 0 mark nothing
pub no_bit : (n k : ℕ) → bit (replicate n 0) k ≡ false
unfolding bit
no_bit n k = rw (zeros n (k / 64)) (no_mark (k % 64))
  where
    zeros : (n i : ℕ) → ◌≡◌ {A = ℕ} (get_or (replicate n 0) i 0) 0
    zeros zero i = refl
    zeros (suc n) zero = refl
    zeros (suc n) (suc i) = zeros n i
