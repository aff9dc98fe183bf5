-- How many numbers pass, beside how many pass another test.
use mathlib.Core.Path.{◌≡◌, refl, sym, ◌∙◌}
use mathlib.Core.Bool.{Bool, true, false}
use mathlib.Core.Logic.{◌⊎◌, inl, inr, ⊎_elim}
use Prim.Native.Nat.{ℕ, zero, suc, ◌≤◌, ◌<◌}
use native.Mathlib.Omega.{arith}
use Rattle.words.specs.Tests.{◌is◌, ◌and◌, fails, provided◌then◌else◌, count}
use Rattle.words.proofs.Truth.{decide, →and, →fails, →isnt, provided_true, provided_false, count_without}

-- no more than there are numbers
pub count_most : (n : ℕ) (p : ℕ → Bool) → count n p ≤ n
unfolding count
count_most zero p = omega arith
count_most (suc n) p =
    let r : count n p ≤ n = count_most n p in
    ⊎_elim (λ (h : p n ≡ true). rw (provided_true (suc (count n p)) (count n p) h) (omega arith)) (λ (h : p n ≡ false). rw (provided_false (suc (count n p)) (count n p) h) (omega arith)) (decide (p n))

-- what is matched into another set, no two to one, is no more
pub count_into : (n m : ℕ) (p q : ℕ → Bool) (R : ℕ → ℕ → Type 0) → ((i : ℕ) → i < n → p i ≡ true → (j : ℕ) × (j < m) × (q j ≡ true) × R i j)
    → ((i i' j : ℕ) → R i j → R i' j → i ≡ i') → count n p ≤ count m q
unfolding count
count_into zero m p q R into one = omega arith
count_into (suc n) m p q R into one = go (decide (p n)) (λ q' g. count_into n m p q' R g one)
  where
    go : (p n ≡ true) ⊎ (p n ≡ false) → ((q' : ℕ → Bool) → ((i : ℕ) → i < n → p i ≡ true → (j : ℕ) × (j < m) × (q' j ≡ true) × R i j) → count n p ≤ count m q')
        → (provided p n then suc (count n p) else count n p) ≤ count m q
    go (inl e) rec =
        let w = into n (omega arith) e in
        let c : suc (count m (λ j. q j and fails (j is w.0))) ≡ count m q = count_without m q w.0 w.1 w.2 in
        let r : count n p ≤ count m (λ j. q j and fails (j is w.0)) = rec (λ j. q j and fails (j is w.0)) (λ (i : ℕ) (h : i < n) (k : p i ≡ true).
        let v = into i (omega arith) k in
        (v.0, v.1, →and v.2 (→fails (→isnt (λ (z : v.0 ≡ w.0). let y : i ≡ n = one i n w.0 (rw z at v.3) w.3 in omega arith))), v.3)) in
        rw (provided_true (suc (count n p)) (count n p) e) (omega arith)
    go (inr e) rec = rw (provided_false (suc (count n p)) (count n p) e) (rec q (λ (i : ℕ) (h : i < n) (k : p i ≡ true). into i (omega arith) k))

-- where all that pass one test pass the other
pub count_fewer : (n : ℕ) (p q : ℕ → Bool) → ((i : ℕ) → i < n → p i ≡ true → q i ≡ true) → count n p ≤ count n q
count_fewer n p q f = count_into n n p q (λ i j. i ≡ j) (λ i h k. (i, h, f i h k, refl)) (λ i i' j a b. a ∙ sym b)
