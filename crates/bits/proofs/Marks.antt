-- Laws of the marks in a word: what each operation of the machine does to them.
use mathlib.Core.Path.{◌≡◌, refl, sym, ap, ◌∙◌}
use mathlib.Core.Bool.{Bool, true, false, not}
use mathlib.Core.Logic.{◌⊎◌, inl, inr, ⊎_elim}
use Prim.Native.Nat.{ℕ, zero, suc, ◌+◌, ◌-◌, ◌*◌, ◌/◌, ◌%◌, ◌^◌, ◌≤◌, ◌<◌, suc-le-suc, min, max}
use native.Mathlib.Nat.{add_comm, one-mul, div-one, zero-div, div-eq_of_lt, pow-suc, sub-zero, lt_of_lt_of_le, lt_of_le_of_lt, le_of_suc-le-suc, not-suc-le-zero, zero-min, zero-max, min-le_left, max-le}
use native.Mathlib.Numerals.{one-add}
use native.Mathlib.Omega.{arith}
use lib.Arith.{digits_mod, lt-one}
use lib.Pow.{pow_pos, pow-lt, pow_mono, ones_lt, shr-shr, shl_exact}
use lib.Dec.{eqb}
use lib.Bits.{bit_and, bit_or, and_step, or_step, and_shr, or_shr, and_mask, and_le_l, or_lt, or_disjoint, shifted_half, shifted_even}
use lib.Count.{count_trailing_zeros, under, trailing_le}
use Rattle.words.specs.Tests.{◌is◌, ◌below◌, ◌upto◌, ◌and◌, ◌or◌, fails, provided◌then◌else◌, some, lowest}
use Rattle.words.proofs.Truth.{decide, not_both, to_true, to_false, or→, →or_left, →or_right, and_no_right, same_test, below→, not_below→, →not_below, upto→, →upto, fails→, and→, →and, provided_true, provided_false, and_no_left, not_fails, is→, isnt→, →is, →isnt, →fails, →not_fails, →none, none→, lowest_at, lowest_none}
use Rattle.bits.specs.Word.{marked, more, less}

-- the lowest bit, and the others
pub mark_first : (m : ℕ) → marked m 0 ≡ (m % 2 is 1)
unfolding marked
mark_first m = ap (λ (n : ℕ). n % 2 is 1) (div-one m)

pub mark_next : (m x : ℕ) → marked m (suc x) ≡ marked (m / 2) x
unfolding marked
mark_next m x = ap (λ (n : ℕ). m / 2 ^ n % 2 is 1) (sym (one-add x)) ∙ ap (λ (n : ℕ). n % 2 is 1) (sym (shr-shr m 1 x))

-- no mark in 0, and none at a bit that the word does not reach
pub no_mark : (x : ℕ) → marked 0 x ≡ false
unfolding marked ◌is◌
no_mark x = ap (λ (n : ℕ). n % 2 is 1) (zero-div (2 ^ x))

pub no_mark_past : (k m x : ℕ) → m < 2 ^ k → k ≤ x → marked m x ≡ false
unfolding marked ◌is◌
no_mark_past k m x h l = ap (λ (n : ℕ). n % 2 is 1) (div-eq_of_lt (lt_of_lt_of_le h (pow_mono l)))

-- .. and so nothing is to be taken away there, and no mark is from there on
pub none_from : (m x : ℕ) → m < 2 ^ 64 → 64 ≤ x → (y : ℕ) → marked 0 y ≡ (x upto y and marked m y)
none_from m x h l y = no_mark y ∙ sym (to_false _ (λ (q : (x upto y and marked m y) ≡ true). let z : x ≤ y = upto→ (and→ q).0 in not_both (and→ q).1 (no_mark_past 64 m y h (omega arith))))

pub less_past : (m x : ℕ) → m < 2 ^ 64 → 64 ≤ x → less m x ≡ m
unfolding less
less_past m x h l = provided_false (m - 2 ^ x) m (no_mark_past 64 m x h l)

-- the bits of what a number is made of
and_bit : (a b : ℕ) → (bit_and a b % 2 is 1) ≡ (a % 2 is 1 and b % 2 is 1)
unfolding ◌is◌ ◌and◌
and_bit a b = ap (λ (n : ℕ). n % 2 is 1) (and_step a b) ∙ ap (λ (n : ℕ). n is 1) (digits_mod (bit_and (a / 2) (b / 2)) (least (a % 2) (b % 2) (omega arith))) ∙ both (a % 2) (b % 2) (omega arith) (omega arith)
  where
    least : (x y : ℕ) → x < 2 → min x y < 2
    least x y h = lt_of_le_of_lt (min-le_left x y) h

    both : (x y : ℕ) → x < 2 → y < 2 → (min x y is 1) ≡ (x is 1 and y is 1)
    both zero y h k = ap (λ (n : ℕ). n is 1) (zero-min y)
    both (suc zero) zero h k = refl
    both (suc zero) (suc zero) h k = refl
    both (suc zero) (suc (suc y)) h k = absurd (omega arith)
    both (suc (suc x)) y h k = absurd (omega arith)

or_bit : (a b : ℕ) → (bit_or a b % 2 is 1) ≡ (a % 2 is 1 or b % 2 is 1)
unfolding ◌is◌ ◌or◌
or_bit a b = ap (λ (n : ℕ). n % 2 is 1) (or_step a b) ∙ ap (λ (n : ℕ). n is 1) (digits_mod (bit_or (a / 2) (b / 2)) (most (a % 2) (b % 2) (omega arith) (omega arith))) ∙ either (a % 2) (b % 2) (omega arith) (omega arith)
  where
    most : (x y : ℕ) → x < 2 → y < 2 → max x y < 2
    most x y h k = suc-le-suc (max-le (le_of_suc-le-suc h) (le_of_suc-le-suc k))

    either : (x y : ℕ) → x < 2 → y < 2 → (max x y is 1) ≡ (x is 1 or y is 1)
    either zero y h k = ap (λ (n : ℕ). n is 1) (zero-max y)
    either (suc zero) zero h k = refl
    either (suc zero) (suc zero) h k = refl
    either (suc zero) (suc (suc y)) h k = absurd (omega arith)
    either (suc (suc x)) y h k = absurd (omega arith)

-- `a & b` and `a | b`
pub mark_and : (a b x : ℕ) → marked (bit_and a b) x ≡ (marked a x and marked b x)
unfolding marked
mark_and a b x = ap (λ (n : ℕ). n % 2 is 1) (and_shr a b x) ∙ and_bit (a / 2 ^ x) (b / 2 ^ x)

pub mark_or : (a b x : ℕ) → marked (bit_or a b) x ≡ (marked a x or marked b x)
unfolding marked
mark_or a b x = ap (λ (n : ℕ). n % 2 is 1) (or_shr a b x) ∙ or_bit (a / 2 ^ x) (b / 2 ^ x)

-- `!b`, in a word of k bits
pub mark_not : (k b x : ℕ) → b < 2 ^ k → x < k → marked ((2 ^ k - 1) - b) x ≡ fails (marked b x)
mark_not zero b x h l = absurd (not-suc-le-zero l)
mark_not (suc k) b zero h l = mark_first _ ∙ other ∙ sym (ap fails (mark_first b))
  where
    other : (((2 ^ suc k - 1) - b) % 2 is 1) ≡ fails (b % 2 is 1)
    other =
        let e : 2 ^ suc k ≡ 2 ^ k * 2 = pow-suc 2 k in
        ⊎_elim (λ (q : (b % 2 is 1) ≡ true). let z : b % 2 ≡ 1 = is→ q in →isnt (λ (w : ((2 ^ suc k - 1) - b) % 2 ≡ 1). omega arith) ∙ sym (→not_fails q))
        (λ (q : (b % 2 is 1) ≡ false). let z : b % 2 ≡ 1 → ⊥ = isnt→ q in →is (omega arith) ∙ sym (→fails q)) (decide (b % 2 is 1))
mark_not (suc k) b (suc x) h l =
    let e : 2 ^ suc k ≡ 2 ^ k * 2 = pow-suc 2 k in
    let z : ((2 ^ suc k - 1) - b) / 2 ≡ (2 ^ k - 1) - b / 2 = omega arith in
    mark_next _ x ∙ ap (λ (n : ℕ). marked n x) z ∙ mark_not k (b / 2) x (omega arith) (omega arith) ∙ sym (ap fails (mark_next b x))

-- `1 << x`
power_mark : (x y : ℕ) → marked (1 * 2 ^ x) y ≡ (y is x)
power_mark zero zero = mark_first 1 ∙ →is refl ∙ sym (→is refl)
power_mark zero (suc y) = mark_next 1 y ∙ no_mark y ∙ sym (→isnt (λ (q : suc y ≡ 0). omega arith))
power_mark (suc x) zero =
    mark_first (1 * 2 ^ suc x) ∙ →isnt (λ (q : 1 * 2 ^ suc x % 2 ≡ 1). omega (arith, shifted_even 1 x)) ∙ sym (→isnt (λ (q : 0 ≡ suc x). omega arith))
power_mark (suc x) (suc y) =
    mark_next (1 * 2 ^ suc x) y ∙ ap (λ (n : ℕ). marked n y) (shifted_half 1 x) ∙ power_mark x y
    ∙ same_test (λ q. →is (ap suc (is→ q))) (λ q. let e : suc y ≡ suc x = is→ q in →is (omega arith))

-- words with the same marks are one
pub same_marks : (k a b : ℕ) → a < 2 ^ k → b < 2 ^ k → ((x : ℕ) → x < k → marked a x ≡ marked b x) → a ≡ b
same_marks zero a b h l f = lt-one h ∙ sym (lt-one l)
same_marks (suc k) a b h l f =
    let e : 2 ^ suc k ≡ 2 ^ k * 2 = pow-suc 2 k in
    let low : a % 2 ≡ b % 2 = digit (sym (mark_first a) ∙ f 0 (omega arith) ∙ mark_first b) (decide (b % 2 is 1)) in
    let high : a / 2 ≡ b / 2 = same_marks k (a / 2) (b / 2) (omega arith) (omega arith) (λ (x : ℕ) (m : x < k). sym (mark_next a x) ∙ f (suc x) (omega arith) ∙ mark_next b x) in
    omega arith
  where
    digit : (a % 2 is 1) ≡ (b % 2 is 1) → ((b % 2 is 1) ≡ true) ⊎ ((b % 2 is 1) ≡ false) → a % 2 ≡ b % 2
    digit e (inl q) = is→ (e ∙ q) ∙ sym (is→ q)
    digit e (inr q) = let y : a % 2 ≡ 1 → ⊥ = isnt→ (e ∙ q) in let z : b % 2 ≡ 1 → ⊥ = isnt→ q in omega arith

-- a word without a mark is 0
pub unmarked→ : (k m : ℕ) → m < 2 ^ k → ((x : ℕ) → x < k → marked m x ≡ false) → m ≡ 0
unmarked→ k m h f = same_marks k m 0 h (pow_pos k) (λ x l. f x l ∙ sym (no_mark x))

-- a number is marked in a word that is not 0, and in no other
pub some_mark : (k m : ℕ) → m < 2 ^ k → fails (m is 0) ≡ some k (marked m)
some_mark k m h = go (decide (m is 0))
  where
    go : ((m is 0) ≡ true) ⊎ ((m is 0) ≡ false) → fails (m is 0) ≡ some k (marked m)
    go (inl q) = →not_fails q ∙ sym (→none (marked m) (λ (x : ℕ) (l : x < k). rw (is→ {m = m} {n = 0} q) (no_mark x)))
    go (inr q) = →fails q ∙ sym (to_true (some k (marked m)) (λ n. isnt→ q (unmarked→ k m h (none→ (marked m) n))))

-- `trailing_zeros`
zeros_unmarked : (k m x : ℕ) → x < count_trailing_zeros k m → marked m x ≡ false
unfolding count_trailing_zeros
zeros_unmarked zero m x h = absurd (not-suc-le-zero h)
zeros_unmarked (suc k) m x h = go (m % 2) refl (zeros_unmarked k (m / 2)) x h
  where
    go : (d : ℕ) → m % 2 ≡ d → ((y : ℕ) → y < count_trailing_zeros k (m / 2) → marked (m / 2) y ≡ false) → (y : ℕ) → y < under d (count_trailing_zeros k (m / 2)) → marked m y ≡ false
    go zero e rec zero l = mark_first m ∙ →isnt (λ (q : m % 2 ≡ 1). omega arith)
    go zero e rec (suc y) l = mark_next m y ∙ rec y (le_of_suc-le-suc l)
    go (suc d) e rec y l = absurd (not-suc-le-zero l)

marked_behind : (k m : ℕ) → count_trailing_zeros k m < k → marked m (count_trailing_zeros k m) ≡ true
unfolding count_trailing_zeros
marked_behind zero m h = absurd (not-suc-le-zero h)
marked_behind (suc k) m h = go (m % 2) refl (marked_behind k (m / 2)) h
  where
    go : (d : ℕ) → m % 2 ≡ d → (count_trailing_zeros k (m / 2) < k → marked (m / 2) (count_trailing_zeros k (m / 2)) ≡ true) → under d (count_trailing_zeros k (m / 2)) < suc k → marked m (under d (count_trailing_zeros k (m / 2))) ≡ true
    go zero e rec l = mark_next m (count_trailing_zeros k (m / 2)) ∙ rec (le_of_suc-le-suc l)
    go (suc d) e rec l = mark_first m ∙ →is (omega arith)

pub trailing : (k m : ℕ) → count_trailing_zeros k m ≡ lowest k (marked m)
trailing k m = go (decide (count_trailing_zeros k m below k))
  where
    go : ((count_trailing_zeros k m below k) ≡ true) ⊎ ((count_trailing_zeros k m below k) ≡ false) → count_trailing_zeros k m ≡ lowest k (marked m)
    go (inl q) = sym (lowest_at (marked m) (count_trailing_zeros k m) (below→ q) (marked_behind k m (below→ q)) (zeros_unmarked k m))
    go (inr q) =
        let e : count_trailing_zeros k m ≡ k = omega (arith, not_below→ q, trailing_le k m) in
        e ∙ sym (lowest_none (marked m) (→none (marked m) (λ (x : ℕ) (l : x < k). zeros_unmarked k m x (omega arith))))

-- `a & !b`, in a word of k bits: nothing is marked past it
pub mark_without : (k a b x : ℕ) → a < 2 ^ k → b < 2 ^ k → marked (bit_and a ((2 ^ k - 1) - b)) x ≡ (marked a x and fails (marked b x))
mark_without k a b x h l = mark_and a ((2 ^ k - 1) - b) x ∙ go (decide (x below k))
  where
    go : ((x below k) ≡ true) ⊎ ((x below k) ≡ false) → (marked a x and marked ((2 ^ k - 1) - b) x) ≡ (marked a x and fails (marked b x))
    go (inl q) = ap (λ (t : Bool). marked a x and t) (mark_not k b x l (below→ q))
    go (inr q) = let e : marked a x ≡ false = no_mark_past k a x h (not_below→ q) in and_no_left _ e ∙ sym (and_no_left _ e)

-- the tests of the code
pub read_mark : (m x : ℕ) → eqb (bit_and (m / 2 ^ x) 1) 1 ≡ marked m x
unfolding marked ◌is◌
read_mark m x = ap (λ (n : ℕ). eqb n 1) (and_mask (m / 2 ^ x) 1)

-- a power within a word
power_lt : (k x : ℕ) → x < k → 1 * 2 ^ x < 2 ^ k
power_lt k x l = rw (one-mul (2 ^ x)) (pow-lt l)

or_mark : (m x y : ℕ) → marked (bit_or (1 * 2 ^ x) m) y ≡ (y is x or marked m y)
or_mark m x y = mark_or (1 * 2 ^ x) m y ∙ ap (λ (t : Bool). t or marked m y) (power_mark x y)

drop_mark : (k m x : ℕ) → m < 2 ^ k → x < k → (y : ℕ) → marked (bit_and m ((2 ^ k - 1) - 1 * 2 ^ x)) y ≡ (marked m y and fails (y is x))
drop_mark k m x h l y = mark_without k m (1 * 2 ^ x) y h (power_lt k x l) ∙ ap (λ (t : Bool). marked m y and fails t) (power_mark x y)

-- `(1 << x) | m` and `m & !(1 << x)`, in a word of k bits, as a sum and a difference
module _ (k m x : ℕ) (h : m < 2 ^ k) (l : x < k) where
  kept : marked m x ≡ true → (y : ℕ) → (y is x) ≡ true → marked m y ≡ true
  kept q y e = let z : y ≡ x = is→ e in rw z q

  -- where x is not marked in r, `|` adds
  added : (r : ℕ) → marked r x ≡ false → bit_or (1 * 2 ^ x) r ≡ 1 * 2 ^ x + r
  added r q =
      or_disjoint (1 * 2 ^ x) r
      (unmarked→ k (bit_and (1 * 2 ^ x) r) (lt_of_le_of_lt (and_le_l (1 * 2 ^ x) r) (power_lt k x l))
      (λ y b. mark_and (1 * 2 ^ x) r y ∙ to_false _ (λ (w : (marked (1 * 2 ^ x) y and marked r y) ≡ true). let e : y ≡ x = is→ (sym (power_mark x y) ∙ (and→ w).0) in not_both (rw e at (and→ w).1) q)))

  more_value : bit_or (1 * 2 ^ x) m ≡ more m x
  unfolding more
  more_value = go (decide (marked m x))
    where
      go : (marked m x ≡ true) ⊎ (marked m x ≡ false) → bit_or (1 * 2 ^ x) m ≡ (provided marked m x then m else m + 2 ^ x)
      go (inl q) =
          same_marks k _ m (or_lt k (1 * 2 ^ x) m (power_lt k x l) h) h
          (λ y b. or_mark m x y ∙ same_test (λ w. ⊎_elim (kept q y) (λ e. e) (or→ w)) (λ w. →or_right (y is x) w))
          ∙ sym (provided_true m (m + 2 ^ x) q)
      go (inr q) = added m q ∙ ap (λ (n : ℕ). n + m) (one-mul (2 ^ x)) ∙ add_comm (2 ^ x) m ∙ sym (provided_false m (m + 2 ^ x) q)

  less_value : bit_and m ((2 ^ k - 1) - 1 * 2 ^ x) ≡ less m x
  unfolding less
  less_value = go (decide (marked m x))
    where
      r : ℕ
      r = bit_and m ((2 ^ k - 1) - 1 * 2 ^ x)

      r_lt : r < 2 ^ k
      r_lt = lt_of_le_of_lt (and_le_l m ((2 ^ k - 1) - 1 * 2 ^ x)) h

      gone : marked r x ≡ false
      gone = drop_mark k m x h l x ∙ and_no_right _ (→not_fails (→is refl))

      go : (marked m x ≡ true) ⊎ (marked m x ≡ false) → r ≡ (provided marked m x then m - 2 ^ x else m)
      go (inr q) =
          same_marks k r m r_lt h
          (λ y b. drop_mark k m x h l y ∙ same_test (λ w. (and→ w).0) (λ w. →and w (→fails (to_false _ (λ e. let z : y ≡ x = is→ e in not_both (rw z at w) q)))))
          ∙ sym (provided_false (m - 2 ^ x) m q)
      go (inl q) =
          let e : bit_or (1 * 2 ^ x) r ≡ m =
          same_marks k _ m (or_lt k (1 * 2 ^ x) r (power_lt k x l) r_lt) h
          (λ y b. or_mark r x y ∙ ap (λ (t : Bool). y is x or t) (drop_mark k m x h l y) ∙ same_test (λ w. ⊎_elim (kept q y) (λ (e : (marked m y and fails (y is x)) ≡ true). (and→ e).0) (or→ w)) (λ w. ⊎_elim (λ (e : (y is x) ≡ true). →or_left _ e) (λ (e : (y is x) ≡ false). →or_right _ (→and w (→fails e))) (decide (y is x))))
          in
          let f : r ≡ m - 2 ^ x = omega (arith, added r gone, one-mul (2 ^ x)) in
          f ∙ sym (provided_true (m - 2 ^ x) m q)

-- what is marked then, in a word of any width
wide : (m x : ℕ) → m < 2 ^ suc (m + x)
wide m x = lt_of_lt_of_le (below_power m) (pow_mono {i = m} {j = suc (m + x)} (omega arith))
  where
    below_power : (n : ℕ) → n < 2 ^ n
    below_power zero = pow_pos 0
    below_power (suc n) = let e : 2 ^ suc n ≡ 2 ^ n * 2 = pow-suc 2 n in let r : n < 2 ^ n = below_power n in omega arith

pub marked_more : (m x y : ℕ) → marked (more m x) y ≡ (y is x or marked m y)
marked_more m x y = ap (λ (n : ℕ). marked n y) (sym (more_value (suc (m + x)) m x (wide m x) (omega arith))) ∙ or_mark m x y

pub marked_less : (m x y : ℕ) → marked (less m x) y ≡ (marked m y and fails (y is x))
marked_less m x y = ap (λ (n : ℕ). marked n y) (sym (less_value (suc (m + x)) m x (wide m x) (omega arith))) ∙ drop_mark (suc (m + x)) m x (wide m x) (omega arith) y

-- .. and as the machine has them
module _ (m x : ℕ) (h : m < 2 ^ 64) (l : x < 64) where
  shifted : (1 * 2 ^ x) % 2 ^ 64 ≡ 1 * 2 ^ x
  shifted = shl_exact 1 x 64 (omega arith) (omega arith)

  pub adds : bit_or ((1 * 2 ^ x) % 2 ^ 64) m ≡ more m x
  adds = ap (λ (n : ℕ). bit_or n m) shifted ∙ more_value 64 m x h l

  pub drops : bit_and m ((2 ^ 64 - 1) - (1 * 2 ^ x) % 2 ^ 64) ≡ less m x
  drops = ap (λ (n : ℕ). bit_and m ((2 ^ 64 - 1) - n)) shifted ∙ less_value 64 m x h l

-- `(1 << x) - 1`: the numbers below x
pub mark_below : (x y : ℕ) → marked (2 ^ x - 1) y ≡ (y below x)
mark_below x y = go (decide (y below x))
  where
    go : ((y below x) ≡ true) ⊎ ((y below x) ≡ false) → marked (2 ^ x - 1) y ≡ (y below x)
    go (inl q) = ap (λ (n : ℕ). marked n y) (sym (sub-zero (2 ^ x - 1))) ∙ mark_not x 0 y (pow_pos x) (below→ q) ∙ →fails (no_mark y) ∙ sym q
    go (inr q) = no_mark_past x (2 ^ x - 1) y (ones_lt x) (not_below→ q) ∙ sym q

-- `a & !((1 << x) - 1)`: those from x on
pub mark_from : (m x : ℕ) → m < 2 ^ 64 → x < 64 → (y : ℕ) → marked (bit_and m ((2 ^ 64 - 1) - ((1 * 2 ^ x) % 2 ^ 64 - 1))) y ≡ (x upto y and marked m y)
mark_from m x h l y =
    ap (λ (n : ℕ). marked (bit_and m ((2 ^ 64 - 1) - (n - 1))) y) e
    ∙ mark_without 64 m (2 ^ x - 1) y h (lt_of_lt_of_le (ones_lt x) (pow_mono {i = x} {j = 64} (omega arith)))
    ∙ ap (λ (t : Bool). marked m y and fails t) (mark_below x y) ∙ swap
  where
    e : (1 * 2 ^ x) % 2 ^ 64 ≡ 2 ^ x
    e = shl_exact 1 x 64 (omega arith) (omega arith) ∙ one-mul (2 ^ x)

    swap : (marked m y and fails (y below x)) ≡ (x upto y and marked m y)
    swap =
        same_test (λ q. →and (→upto (not_below→ (fails→ (and→ q).1))) (and→ q).0)
        (λ q. →and (and→ q).1 (→fails (→not_below (upto→ (and→ q).0))))

pub power_above : (x : ℕ) → x < 64 → 1 ≤ (1 * 2 ^ x) % 2 ^ 64
power_above x h = let e : (1 * 2 ^ x) % 2 ^ 64 ≡ 1 * 2 ^ x = shl_exact 1 x 64 (omega arith) (omega arith) in rw (e, one-mul (2 ^ x)) (pow_pos x)

pub any_mark : (m : ℕ) → m < 2 ^ 64 → not (eqb m 0) ≡ some 64 (marked m)
unfolding ◌is◌
any_mark m h = not_fails (eqb m 0) ∙ some_mark 64 m h
