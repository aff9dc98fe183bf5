-- Which number is the first that applies, and what the limits' constructors tell.
use Rattle.std.specs.Prelude.{Result, Ok, Err}
use mathlib.Core.Path.{◌≡◌, refl, ap, ◌∙◌}
use mathlib.Core.Bool.{Bool, true, false, true≢false, false≢true}
use mathlib.Core.Logic.{◌⊎◌, inl, inr}
use Prim.Native.Nat.{ℕ, zero, suc, ◌+◌, ◌<◌}
use native.Mathlib.Omega.{arith}
use native.Mathlib.Nat.{not-suc-le-zero}
use native.Mathlib.Numerals.{add-one}
use Rattle.words.specs.Tests.{◌below◌, provided◌then◌else◌}
use Rattle.words.proofs.Truth.{decide, below→, not_below→}
use Rattle.verdict.specs.Answers.{Refusal, Checked, Passed, Refused}
use Rattle.verdict.specs.Refusal.{◌at◌when◌, ◌else_try◌, tried}

-- equal refusals have one number and one place
number_of : {A : Type 0} → Result A Refusal → ℕ
number_of (Ok _) = 0
number_of (Err e) = e.0

place_of : {A : Type 0} → Result A Refusal → ℕ
place_of (Ok _) = 0
place_of (Err e) = e.1

module _ {A : Type 0} {n p m q : ℕ} where
  pub one_number : Refused {A = A} n p ≡ Refused m q → n ≡ m
  unfolding number_of
  one_number e = ap number_of e

  pub one_place : Refused {A = A} n p ≡ Refused m q → p ≡ q
  unfolding place_of
  one_place e = ap place_of e

-- a number whose test passes, or fails
pub when_yes : (n p : ℕ) {b : Bool} → b ≡ true → (n at p when b) ≡ Refused n p
unfolding ◌at◌when◌
when_yes n p {b = true} h = refl
when_yes n p {b = false} h = absurd (false≢true h)

pub when_no : (n p : ℕ) {b : Bool} → b ≡ false → (n at p when b) ≡ Passed
unfolding ◌at◌when◌
when_no n p {b = true} h = absurd (true≢false h)
when_no n p {b = false} h = refl

-- the first that applies is given, and else the following is tried
pub first_yes : (n p : ℕ) {b : Bool} (r : Checked) → b ≡ true → (n at p when b else_try r) ≡ Refused n p
unfolding ◌else_try◌
first_yes n p r h = ap (λ (z : Checked). z else_try r) (when_yes n p h)

pub first_no : (n p : ℕ) {b : Bool} (r : Checked) → b ≡ false → (n at p when b else_try r) ≡ r
unfolding ◌else_try◌
first_no n p r h = ap (λ (z : Checked). z else_try r) (when_no n p h)

pub tried_refused : {f : Checked} (s : Checked) {n p : ℕ} → f ≡ Refused n p → (f else_try s) ≡ Refused n p
unfolding ◌else_try◌
tried_refused s e = ap (λ (z : Checked). z else_try s) e

pub tried_passed : {f : Checked} (s : Checked) → f ≡ Passed → (f else_try s) ≡ s
unfolding ◌else_try◌
tried_passed s e = ap (λ (z : Checked). z else_try s) e

-- what is tried last where nothing applies, and what is tried after two that are tried as one
pub try_none : (a : Checked) → (a else_try Passed) ≡ a
unfolding ◌else_try◌
try_none (Ok _) = refl
try_none (Err _) = refl

pub try_last : (a b s : Checked) → ((a else_try b) else_try s) ≡ (a else_try b else_try s)
unfolding ◌else_try◌
try_last (Ok _) b s = refl
try_last (Err _) b s = refl

-- what is tried after two others is tried after both
pub try_more : (a b l s : Checked) → (a else_try b else_try l else_try s) ≡ ((a else_try b else_try l) else_try s)
unfolding ◌else_try◌
try_more (Err _) b l s = refl
try_more (Ok _) (Err _) l s = refl
try_more (Ok _) (Ok _) (Err _) s = refl
try_more (Ok _) (Ok _) (Ok _) s = refl

-- .. and after three
pub try_more_3 : (a b o l s : Checked) → (a else_try b else_try o else_try l else_try s) ≡ ((a else_try b else_try o else_try l) else_try s)
unfolding ◌else_try◌
try_more_3 (Err _) b o l s = refl
try_more_3 (Ok _) b o l s = try_more b o l s

-- one place more
pub tried_next : (i : ℕ) (f : ℕ → Checked) → tried (i + 1) f ≡ (tried i f else_try f i)
unfolding tried
tried_next i f = rw (add-one i) refl

pub tried_none : (i : ℕ) (f : ℕ → Checked) → tried i f ≡ Passed → f i ≡ Passed → tried (i + 1) f ≡ Passed
unfolding ◌else_try◌
tried_none i f h k = tried_next i f ∙ ap (λ (z : Checked). z else_try f i) h ∙ k

-- the first place at which a refusal applies gives it
pub tried_first : {n m p : ℕ} (f : ℕ → Checked) (i : ℕ) → i < n → tried i f ≡ Passed → f i ≡ Refused m p → tried n f ≡ Refused m p
unfolding tried ◌else_try◌
tried_first {n = zero} f i k h e = absurd (not-suc-le-zero k)
tried_first {n = suc n} {m} {p} f i k h e = go (decide (i below n)) (λ q. tried_first {n = n} f i q h e)
  where
    go : ((i below n) ≡ true) ⊎ ((i below n) ≡ false) → (i < n → tried n f ≡ Refused m p) → (tried n f else_try f n) ≡ Refused m p
    go (inl q) rec = ap (λ (z : Checked). z else_try f n) (rec (below→ q))
    go (inr q) rec = let z : i ≡ n = omega (arith, not_below→ q) in ap (λ (z : Checked). z else_try f n) (rw z at h) ∙ (rw z at e)

-- equal refusals at each place
pub tried_same : (n : ℕ) (f g : ℕ → Checked) → ((i : ℕ) → i < n → f i ≡ g i) → tried n f ≡ tried n g
unfolding tried
tried_same zero f g h = refl
tried_same (suc n) f g h = rw (tried_same n f g (λ i k. h i (omega arith)), h n (omega arith)) refl

-- THE CHOICE OF A CONSTRUCTOR
module _ {A : Type 0} where
  pub chose_first : (b : Bool) (x y : A) {z : A} → (provided b then x else y) ≡ z → (y ≡ z → ⊥) → b ≡ true
  unfolding provided◌then◌else◌
  chose_first true x y e n = refl
  chose_first false x y e n = absurd (n e)

  pub chose_second : (b : Bool) (x y : A) {z : A} → (provided b then x else y) ≡ z → (x ≡ z → ⊥) → b ≡ false
  unfolding provided◌then◌else◌
  chose_second true x y e n = absurd (n e)
  chose_second false x y e n = refl
