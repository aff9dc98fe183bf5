-- The objects of which a transaction needs to find something, as marks: how they are made, and that they are all that is to be asked.
use mathlib.Core.Path.{◌≡◌, sym, ◌∙◌}
use mathlib.Core.Bool.{true, false}
use mathlib.Core.Logic.{◌⊎◌, inl, inr}
use mathlib.Core.List.{List}
use Prim.Native.Nat.{ℕ, ◌+◌, ◌-◌, ◌*◌, ◌≤◌, ◌<◌}
use native.Mathlib.Omega.{arith}
use lib.ListN.{length, get_or, set}
use lib.Seq.{get_or-set_same, get_or-set_other}
use Rattle.words.specs.Tests.{◌is◌, ◌below◌, ◌or◌, fails, provided◌then◌else◌, every, some}
use Rattle.words.proofs.Truth.{decide, not_both, to_false, →or_left, or_false, →fails, →not_fails, not_fails→, is→, →is, isnt→, →isnt, →below, provided_true, →every, every→, none→}
use Rattle.bits.specs.Word.{marked, more, less}
use Rattle.bits.proofs.Marks.{no_mark, marked_more}
use Rattle.bits.proofs.Walks.{unturned}
use Rattle.verdict.specs.Limits.{objects}
use Rattle.verdict.specs.Inner.Placing.{allows, NeededOf}
use Rattle.verdict.proofs.Loosely.{allows_any, allows_it, allows_not}

-- a need that is not 0 allows the one writer that it asks for
pub allows_one : (e v : ℕ) → (e ≡ 0 → ⊥) → (e - 1 is v) ≡ allows e v
allows_one e v n = go (decide (e - 1 is v))
  where
    go : ((e - 1 is v) ≡ true) ⊎ ((e - 1 is v) ≡ false) → (e - 1 is v) ≡ allows e v
    go (inl q) = q ∙ sym (allows_it v n (is→ q))
    go (inr q) = q ∙ sym (allows_not v n (isnt→ q))

-- the marks of the objects below x
pub record NeededBelow (need : List ℕ) (t x marks : ℕ) : Type 0 where
  pub low : (y : ℕ) → y < x → marked marks y ≡ fails (get_or need (t * objects + y) 0 is 0)
  pub high : (y : ℕ) → x ≤ y → marked marks y ≡ false

pub needed_nothing : (need : List ℕ) (t : ℕ) → NeededBelow need t 0 0
needed_nothing need t = record { low = λ (y : ℕ) (h : y < 0). absurd (omega arith); high = λ y h. no_mark y }

module _ {need : List ℕ} {t x marks : ℕ} (known : NeededBelow need t x marks) where
  -- one object more
  pub needed_none_of : get_or need (t * objects + x) 0 ≡ 0 → NeededBelow need t (x + 1) marks
  needed_none_of z = record { low = λ y h. go y h (decide (y is x)); high = λ (y : ℕ) (h : x + 1 ≤ y). known.high y (omega arith) }
    where
      go : (y : ℕ) → y < x + 1 → ((y is x) ≡ true) ⊎ ((y is x) ≡ false) → marked marks y ≡ fails (get_or need (t * objects + y) 0 is 0)
      go y h (inl q) = let e : y ≡ x = is→ q in rw e (known.high x (omega arith) ∙ sym (→not_fails (→is z)))
      go y h (inr q) = let e : y ≡ x → ⊥ = isnt→ q in known.low y (omega arith)

  pub needed_some_of : x < objects → (get_or need (t * objects + x) 0 ≡ 0 → ⊥) → NeededBelow need t (x + 1) (provided x below 64 then more marks x else marks)
  needed_some_of l n =
      rw (provided_true (more marks x) marks (→below l))
      (record { low = λ y h. marked_more marks x y ∙ go y h (decide (y is x)); high = λ (y : ℕ) (h : x + 1 ≤ y). marked_more marks x y ∙ or_false (→isnt (λ (e : y ≡ x). omega arith)) ∙ known.high y (omega arith) })
    where
      go : (y : ℕ) → y < x + 1 → ((y is x) ≡ true) ⊎ ((y is x) ≡ false) → ((y is x) or marked marks y) ≡ fails (get_or need (t * objects + y) 0 is 0)
      go y h (inl q) = let e : y ≡ x = is→ q in →or_left _ q ∙ sym (→fails (→isnt (λ z. n (rw e at z))))
      go y h (inr q) = let e : y ≡ x → ⊥ = isnt→ q in or_false q ∙ known.low y (omega arith)

  -- all objects
  pub needed_all_of : x ≡ objects → NeededOf need t marks
  needed_all_of e = record { mark = λ y h. known.low y (omega arith) }

-- what has been asked of the marks that are left no more
pub record Asked (need last : List ℕ) (t marks left : ℕ) : Type 0 where
  pub allowed : (y : ℕ) → y < objects → marked marks y ≡ true → marked left y ≡ false → allows (get_or need (t * objects + y) 0) (get_or last y 0) ≡ true

pub asked_nothing : (need last : List ℕ) (t marks : ℕ) → Asked need last t marks marks
asked_nothing need last t marks = record { allowed = λ y h m n. absurd (not_both m n) }

module _ {need last : List ℕ} {t marks left : ℕ} (asked : Asked need last t marks left) where
  pub asked_more : (x : ℕ) → allows (get_or need (t * objects + x) 0) (get_or last x 0) ≡ true → Asked need last t marks (less left x)
  asked_more x a = record { allowed = λ y h m n. go y h m n (decide (y is x)) }
    where
      go : (y : ℕ) → y < objects → marked marks y ≡ true → marked (less left x) y ≡ false → ((y is x) ≡ true) ⊎ ((y is x) ≡ false) → allows (get_or need (t * objects + y) 0) (get_or last y 0) ≡ true
      go y h m n (inl q) = let e : y ≡ x = is→ q in rw e a
      go y h m n (inr q) = asked.allowed y h m (sym (unturned left x y q) ∙ n)

  pub asked_all : NeededOf need t marks → some 64 (marked left) ≡ false → every objects (λ y. allows (get_or need (t * objects + y) 0) (get_or last y 0)) ≡ true
  asked_all needed none = →every _ (λ y h. go y h (decide (marked marks y)))
    where
      go : (y : ℕ) → y < objects → (marked marks y ≡ true) ⊎ (marked marks y ≡ false) → allows (get_or need (t * objects + y) 0) (get_or last y 0) ≡ true
      go y h (inl m) = asked.allowed y h m (none→ (marked left) none y h)
      go y h (inr m) = allows_any (get_or last y 0) (is→ (not_fails→ (sym (needed.mark y h) ∙ m)))

-- one that is not allowed
pub one_barred : (need last : List ℕ) (t x : ℕ) → x < objects → allows (get_or need (t * objects + x) 0) (get_or last x 0) ≡ false → every objects (λ y. allows (get_or need (t * objects + y) 0) (get_or last y 0)) ≡ false
one_barred need last t x h n = to_false _ (λ e. not_both (every→ _ e x h) n)

-- the marks of one more on a list
pub needed_next : (need ones asks : List ℕ) {i v : ℕ} → i < length asks → ((k : ℕ) → k < i → NeededOf need (get_or ones k 0) (get_or asks k 0)) → NeededOf need (get_or ones i 0) v
    → (k : ℕ) → k < i + 1 → NeededOf need (get_or ones k 0) (get_or (set asks i v) k 0)
needed_next need ones asks {i} {v} l f g k h = go (decide (k is i))
  where
    go : ((k is i) ≡ true) ⊎ ((k is i) ≡ false) → NeededOf need (get_or ones k 0) (get_or (set asks i v) k 0)
    go (inl q) = let e : k ≡ i = is→ q in rw (e, get_or-set_same asks i v 0 l) g
    go (inr q) = let e : k ≡ i → ⊥ = isnt→ q in rw (get_or-set_other asks i k v 0 e) (f k (omega arith))
