-- Laws of the tests of specs/Tests.antt. A test passes when it is `≡ true`.
use mathlib.Core.Path.{◌≡◌, refl, sym, ap, ◌∙◌}
use mathlib.Core.Bool.{Bool, true, false, not, true≢false, false≢true}
use mathlib.Core.Logic.{◌⊎◌, inl, inr, ⊎_elim}
use Prim.Native.Nat.{ℕ, zero, suc, ◌+◌, ◌≤◌, ◌<◌}
use native.Mathlib.Omega.{arith}
use native.Mathlib.Nat.{not-suc-le-zero}
use native.Mathlib.Numerals.{add-one}
use borrow.Author.Tests.{ltb-true, ltb-false, leb-true, leb-false, eqb-true, eqb-false, lt-ltb, le-ltb, le-leb, lt-leb, eq-eqb, ne_eqb}
use Rattle.words.specs.Tests.{◌is◌, ◌below◌, ◌upto◌, ◌and◌, ◌or◌, ◌implies◌, fails, provided◌then◌else◌, some, every, count, lowest, highest}

-- a test passes or fails
pub decide : (b : Bool) → (b ≡ true) ⊎ (b ≡ false)
decide true = inl refl
decide false = inr refl

pub not_both : {b : Bool} → b ≡ true → b ≡ false → ⊥
not_both p q = true≢false (sym p ∙ q)

pub to_false : (b : Bool) → (b ≡ true → ⊥) → b ≡ false
to_false true f = absurd (f refl)
to_false false f = refl

pub to_true : (b : Bool) → (b ≡ false → ⊥) → b ≡ true
to_true true f = refl
to_true false f = absurd (f refl)

-- two tests of which each passes when the other does are one
pub same_test : {a b : Bool} → (a ≡ true → b ≡ true) → (b ≡ true → a ≡ true) → a ≡ b
same_test {a = true} {b} f g = sym (f refl)
same_test {a = false} {b = true} f g = g refl
same_test {a = false} {b = false} f g = refl

-- the connectives
pub and→ : {a b : Bool} → (a and b) ≡ true → (a ≡ true) × (b ≡ true)
unfolding ◌and◌
and→ {a = true} {b} h = (refl, h)
and→ {a = false} {b} h = absurd (false≢true h)

pub →and : {a b : Bool} → a ≡ true → b ≡ true → (a and b) ≡ true
unfolding ◌and◌
→and {a = true} {b} p q = q
→and {a = false} {b} p q = p

pub or→ : {a b : Bool} → (a or b) ≡ true → (a ≡ true) ⊎ (b ≡ true)
unfolding ◌or◌
or→ {a = true} {b} h = inl refl
or→ {a = false} {b} h = inr h

pub →or_left : {a : Bool} (b : Bool) → a ≡ true → (a or b) ≡ true
unfolding ◌or◌
→or_left {a = true} b h = refl
→or_left {a = false} b h = absurd (false≢true h)

pub →or_right : (a : Bool) {b : Bool} → b ≡ true → (a or b) ≡ true
unfolding ◌or◌
→or_right true h = refl
→or_right false h = h

pub or_no : (a : Bool) {b : Bool} → b ≡ false → (a or b) ≡ a
unfolding ◌or◌
or_no true h = refl
or_no false h = h

pub or_assoc : (a b c : Bool) → (a or (b or c)) ≡ ((a or b) or c)
unfolding ◌or◌
or_assoc true b c = refl
or_assoc false b c = refl

pub and_no_left : {a : Bool} (b : Bool) → a ≡ false → (a and b) ≡ false
unfolding ◌and◌
and_no_left {a = true} b h = absurd (true≢false h)
and_no_left {a = false} b h = refl

pub and_no_right : (a : Bool) {b : Bool} → b ≡ false → (a and b) ≡ false
unfolding ◌and◌
and_no_right true h = h
and_no_right false h = refl

pub and_true : {a b : Bool} → a ≡ true → (a and b) ≡ b
unfolding ◌and◌
and_true {a = true} {b} h = refl
and_true {a = false} {b} h = absurd (false≢true h)

pub and_true_right : (a : Bool) {b : Bool} → b ≡ true → (a and b) ≡ a
unfolding ◌and◌
and_true_right true h = h
and_true_right false h = refl

pub or_false : {a b : Bool} → a ≡ false → (a or b) ≡ b
unfolding ◌or◌
or_false {a = true} {b} h = absurd (true≢false h)
or_false {a = false} {b} h = refl

pub fails→ : {a : Bool} → fails a ≡ true → a ≡ false
unfolding fails
fails→ {a = true} h = absurd (false≢true h)
fails→ {a = false} h = refl

pub →fails : {a : Bool} → a ≡ false → fails a ≡ true
unfolding fails
→fails {a = true} h = absurd (true≢false h)
→fails {a = false} h = refl

-- the code's `!`
pub not_fails : (b : Bool) → not b ≡ fails b
unfolding fails
not_fails true = refl
not_fails false = refl

pub not_fails→ : {a : Bool} → fails a ≡ false → a ≡ true
unfolding fails
not_fails→ {a = true} h = refl
not_fails→ {a = false} h = absurd (true≢false h)

pub →not_fails : {a : Bool} → a ≡ true → fails a ≡ false
unfolding fails
→not_fails {a = true} h = refl
→not_fails {a = false} h = absurd (false≢true h)

pub implies→ : {a b : Bool} → (a implies b) ≡ true → a ≡ true → b ≡ true
unfolding ◌implies◌
implies→ {a = true} {b} h p = h
implies→ {a = false} {b} h p = absurd (false≢true p)

pub →implies : {a b : Bool} → (a ≡ true → b ≡ true) → (a implies b) ≡ true
unfolding ◌implies◌
→implies {a = true} {b} f = f refl
→implies {a = false} {b} f = refl

-- numbers
pub is→ : {m n : ℕ} → (m is n) ≡ true → m ≡ n
unfolding ◌is◌
is→ {m} {n} h = eqb-true m n h

pub →is : {m n : ℕ} → m ≡ n → (m is n) ≡ true
unfolding ◌is◌
→is {m} {n} h = eq-eqb m n h

pub isnt→ : {m n : ℕ} → (m is n) ≡ false → m ≡ n → ⊥
unfolding ◌is◌
isnt→ {m} {n} h = eqb-false m n h

pub →isnt : {m n : ℕ} → (m ≡ n → ⊥) → (m is n) ≡ false
unfolding ◌is◌
→isnt {m} {n} h = ne_eqb m n h

pub below→ : {m n : ℕ} → (m below n) ≡ true → m < n
unfolding ◌below◌
below→ {m} {n} h = ltb-true m n h

pub →below : {m n : ℕ} → m < n → (m below n) ≡ true
unfolding ◌below◌
→below {m} {n} h = lt-ltb m n h

pub not_below→ : {m n : ℕ} → (m below n) ≡ false → n ≤ m
unfolding ◌below◌
not_below→ {m} {n} h = ltb-false m n h

pub →not_below : {m n : ℕ} → n ≤ m → (m below n) ≡ false
unfolding ◌below◌
→not_below {m} {n} h = le-ltb m n h

pub upto→ : {m n : ℕ} → (m upto n) ≡ true → m ≤ n
unfolding ◌upto◌
upto→ {m} {n} h = leb-true m n h

pub →upto : {m n : ℕ} → m ≤ n → (m upto n) ≡ true
unfolding ◌upto◌
→upto {m} {n} h = le-leb m n h

pub not_upto→ : {m n : ℕ} → (m upto n) ≡ false → n < m
unfolding ◌upto◌
not_upto→ {m} {n} h = leb-false m n h

pub →not_upto : {m n : ℕ} → n < m → (m upto n) ≡ false
unfolding ◌upto◌
→not_upto {m} {n} h = lt-leb m n h

-- the choice
module _ {ℓ} {A : Type ℓ} where
  pub provided_true : {b : Bool} (x y : A) → b ≡ true → (provided b then x else y) ≡ x
  unfolding provided◌then◌else◌
  provided_true {b = true} x y h = refl
  provided_true {b = false} x y h = absurd (false≢true h)

  pub provided_false : {b : Bool} (x y : A) → b ≡ false → (provided b then x else y) ≡ y
  unfolding provided◌then◌else◌
  provided_false {b = true} x y h = absurd (true≢false h)
  provided_false {b = false} x y h = refl

-- questions over the numbers below n
pub some→ : {n : ℕ} {p : ℕ → Bool} → some n p ≡ true → (i : ℕ) × (i < n) × (p i ≡ true)
unfolding some
some→ {n = zero} {p} h = absurd (false≢true h)
some→ {n = suc n} {p} h = go (λ k. some→ k) (or→ h)
  where
    go : (some n p ≡ true → (i : ℕ) × (i < n) × (p i ≡ true)) → (some n p ≡ true) ⊎ (p n ≡ true) → (i : ℕ) × (i < suc n) × (p i ≡ true)
    go rec (inl k) = let r = rec k in (r.0, omega (arith, r.1), r.2)
    go rec (inr k) = (n, omega arith, k)

pub →some : {n : ℕ} (p : ℕ → Bool) (i : ℕ) → i < n → p i ≡ true → some n p ≡ true
unfolding some
→some {n = zero} p i h q = absurd (not-suc-le-zero h)
→some {n = suc n} p i h q = go (decide (i below n)) (λ k. →some p i k q)
  where
    go : ((i below n) ≡ true) ⊎ ((i below n) ≡ false) → (i < n → some n p ≡ true) → (some n p or p n) ≡ true
    go (inl k) rec = →or_left (p n) (rec (below→ k))
    go (inr k) rec = let e : i ≡ n = omega (arith, not_below→ k) in →or_right (some n p) (rw e at q)

pub none→ : {n : ℕ} (p : ℕ → Bool) → some n p ≡ false → (i : ℕ) → i < n → p i ≡ false
none→ {n} p h i k = to_false (p i) (λ q. not_both (→some p i k q) h)

pub →none : {n : ℕ} (p : ℕ → Bool) → ((i : ℕ) → i < n → p i ≡ false) → some n p ≡ false
→none {n} p f = to_false (some n p) (λ h. let r = some→ h in not_both r.2 (f r.0 r.1))

pub none_below : {i : ℕ} (n : ℕ) (p : ℕ → Bool) → some i p ≡ false → n ≤ i → some n p ≡ false
none_below n p h l = →none p (λ (j : ℕ) (k : j < n). none→ p h j (omega arith))

-- tests that agree below n
pub some_same : (n : ℕ) (p q : ℕ → Bool) → ((i : ℕ) → i < n → p i ≡ q i) → some n p ≡ some n q
unfolding some
some_same zero p q f = refl
some_same (suc n) p q f = rw (some_same n p q (λ (i : ℕ) (h : i < n). f i (omega arith)), f n (omega arith)) refl

pub every→ : {n : ℕ} (p : ℕ → Bool) → every n p ≡ true → (i : ℕ) → i < n → p i ≡ true
unfolding every
every→ {n = zero} p h i k = absurd (not-suc-le-zero k)
every→ {n = suc n} p h i k = go (decide (i below n)) (and→ h).1 (λ m. every→ {n = n} p (and→ h).0 i m)
  where
    go : ((i below n) ≡ true) ⊎ ((i below n) ≡ false) → p n ≡ true → (i < n → p i ≡ true) → p i ≡ true
    go (inl m) q rec = rec (below→ m)
    go (inr m) q rec = let e : i ≡ n = omega (arith, not_below→ m) in rw e q

pub →every : {n : ℕ} (p : ℕ → Bool) → ((i : ℕ) → i < n → p i ≡ true) → every n p ≡ true
unfolding every
→every {n = zero} p f = refl
→every {n = suc n} p f = →and (→every {n = n} p (λ i h. f i (omega arith))) (f n (omega arith))

-- the lowest: where one passes, it is below n and passes, and nothing below it does
pub lowest_is : {n : ℕ} (p : ℕ → Bool) → some n p ≡ true → (lowest n p < n) × (p (lowest n p) ≡ true) × ((i : ℕ) → i < lowest n p → p i ≡ false)
unfolding some lowest
lowest_is {n = zero} p h = absurd (false≢true h)
lowest_is {n = suc n} p h = go (decide (some n p)) (λ k. lowest_is {n = n} p k) (or→ h)
  where
    go : (some n p ≡ true) ⊎ (some n p ≡ false)
        → (some n p ≡ true → (lowest n p < n) × (p (lowest n p) ≡ true) × ((i : ℕ) → i < lowest n p → p i ≡ false))
        → (some n p ≡ true) ⊎ (p n ≡ true)
        → (lowest (suc n) p < suc n) × (p (lowest (suc n) p) ≡ true) × ((i : ℕ) → i < lowest (suc n) p → p i ≡ false)
    go (inl k) rec c =
        rw (provided_true (lowest n p) (provided p n then n else suc n) k)
        (let r = rec k in (omega (arith, r.0), r.1, r.2))
    go (inr k) rec (inl c) = absurd (not_both c k)
    go (inr k) rec (inr c) =
        rw (provided_false (lowest n p) (provided p n then n else suc n) k, provided_true n (suc n) c)
        (omega arith, c, none→ p k)

pub lowest_none : {n : ℕ} (p : ℕ → Bool) → some n p ≡ false → lowest n p ≡ n
unfolding some lowest
lowest_none {n = zero} p h = refl
lowest_none {n = suc n} p h =
    let a : some n p ≡ false = →none p (λ (i : ℕ) (k : i < n). none→ {n = suc n} p h i (omega arith)) in
    let b : p n ≡ false = none→ {n = suc n} p h n (omega arith) in
    provided_false (lowest n p) (provided p n then n else suc n) a ∙ provided_false n (suc n) b

pub lowest_passes : {n : ℕ} (p : ℕ → Bool) → lowest n p < n → some n p ≡ true
lowest_passes {n} p h = to_true _ (λ k. let e : lowest n p ≡ n = lowest_none p k in omega arith)

pub lowest_bound : {n : ℕ} (p : ℕ → Bool) → lowest n p ≤ n
lowest_bound {n} p =
    ⊎_elim (λ (k : some n p ≡ true). let z : lowest n p < n = (lowest_is p k).0 in omega arith)
    (λ (k : some n p ≡ false). let z : lowest n p ≡ n = lowest_none p k in omega arith) (decide (some n p))

-- nothing below the lowest passes
pub below_lowest : (n : ℕ) (p : ℕ → Bool) (i : ℕ) → i < lowest n p → p i ≡ false
below_lowest n p i h = go (decide (some n p))
  where
    go : (some n p ≡ true) ⊎ (some n p ≡ false) → p i ≡ false
    go (inl k) = (lowest_is p k).2 i h
    go (inr k) = let e : lowest n p ≡ n = lowest_none p k in none→ p k i (omega arith)

-- where the lowest is not below n, none passes
pub lowest_some : {n : ℕ} (p : ℕ → Bool) → n ≤ lowest n p → some n p ≡ false
lowest_some {n} p h = to_false (some n p) (λ k. let r = (lowest_is p k).0 in omega arith)

-- a number that passes while nothing below it does is the lowest
pub lowest_at : {n : ℕ} (p : ℕ → Bool) (i : ℕ) → i < n → p i ≡ true → ((j : ℕ) → j < i → p j ≡ false) → lowest n p ≡ i
lowest_at {n} p i h q f = go (decide (lowest n p below i)) (decide (i below lowest n p))
  where
    found : (lowest n p < n) × (p (lowest n p) ≡ true) × ((j : ℕ) → j < lowest n p → p j ≡ false)
    found = lowest_is p (→some p i h q)

    go : ((lowest n p below i) ≡ true) ⊎ ((lowest n p below i) ≡ false) → ((i below lowest n p) ≡ true) ⊎ ((i below lowest n p) ≡ false) → lowest n p ≡ i
    go (inl a) b = absurd (not_both found.1 (f (lowest n p) (below→ a)))
    go (inr a) (inl b) = absurd (not_both q (found.2 i (below→ b)))
    go (inr a) (inr b) = omega (arith, not_below→ a, not_below→ b)

pub lowest_found : {n : ℕ} (p : ℕ → Bool) (i : ℕ) → i < n → p i ≡ true → some i p ≡ false → lowest n p ≡ i
lowest_found p i h q none = lowest_at p i h q (none→ p none)

pub lowest_le : {n : ℕ} (p : ℕ → Bool) (i : ℕ) → i < n → p i ≡ true → lowest n p ≤ i
lowest_le {n} p i h q = go (decide (i below lowest n p))
  where
    go : ((i below lowest n p) ≡ true) ⊎ ((i below lowest n p) ≡ false) → lowest n p ≤ i
    go (inl k) = absurd (not_both q ((lowest_is p (→some p i h q)).2 i (below→ k)))
    go (inr k) = not_below→ k

-- one number more
pub count_yes : (i : ℕ) (p : ℕ → Bool) → p i ≡ true → count (i + 1) p ≡ suc (count i p)
unfolding count
count_yes i p h = rw (add-one i) (provided_true (suc (count i p)) (count i p) h)

pub count_no : (i : ℕ) (p : ℕ → Bool) → p i ≡ false → count (i + 1) p ≡ count i p
unfolding count
count_no i p h = rw (add-one i) (provided_false (suc (count i p)) (count i p) h)

pub count_none : (n : ℕ) (p : ℕ → Bool) → some n p ≡ false → count n p ≡ 0
unfolding count
count_none zero p h = refl
count_none (suc n) p h = provided_false _ _ (none→ {n = suc n} p h n (omega arith)) ∙ count_none n p (none_below {i = suc n} n p h (omega arith))

-- a count is at most the bound, and less where 0 does not pass
pub count_above : (n : ℕ) (p : ℕ → Bool) → p 0 ≡ false → count (suc n) p ≤ n
unfolding count
count_above zero p h = let e : count 1 p ≡ 0 = provided_false 1 0 h in omega arith
count_above (suc n) p h =
    let r : count (suc n) p ≤ n = count_above n p h in
    ⊎_elim (λ (k : p (suc n) ≡ true). let e : count (suc (suc n)) p ≡ suc (count (suc n) p) = provided_true _ _ k in omega arith)
    (λ (k : p (suc n) ≡ false). let e : count (suc (suc n)) p ≡ count (suc n) p = provided_false _ _ k in omega arith) (decide (p (suc n)))

-- more numbers, and no fewer that pass
pub count_upto : (m n : ℕ) (p : ℕ → Bool) → m ≤ n → count m p ≤ count n p
unfolding count
count_upto m zero p h = let e : m ≡ 0 = omega arith in rw e (omega arith)
count_upto m (suc n) p h = go (decide (m upto n)) (λ l. count_upto m n p l)
  where
    go : ((m upto n) ≡ true) ⊎ ((m upto n) ≡ false) → (m ≤ n → count m p ≤ count n p) → count m p ≤ count (suc n) p
    go (inr k) again = let e : m ≡ suc n = omega (arith, not_upto→ k) in rw e (omega arith)
    go (inl k) again =
        let r : count m p ≤ count n p = again (upto→ k) in
        ⊎_elim (λ (q : p n ≡ true). let e : count (suc n) p ≡ suc (count n p) = provided_true _ _ q in omega arith)
        (λ (q : p n ≡ false). let e : count (suc n) p ≡ count n p = provided_false _ _ q in omega arith) (decide (p n))

pub some_next : (i : ℕ) (p : ℕ → Bool) → some (i + 1) p ≡ (some i p or p i)
unfolding some
some_next i p = rw (add-one i) refl

pub some_skip : (i : ℕ) (p : ℕ → Bool) → p i ≡ false → some (i + 1) p ≡ some i p
some_skip i p h = some_next i p ∙ or_no (some i p) h

pub none_next : (i : ℕ) (p : ℕ → Bool) → some i p ≡ false → p i ≡ false → some (i + 1) p ≡ false
none_next i p h k = some_skip i p k ∙ h

pub every_next : (i : ℕ) (p : ℕ → Bool) → every (i + 1) p ≡ (every i p and p i)
unfolding every
every_next i p = rw (add-one i) refl

-- the highest: one number more
pub highest_yes : (n : ℕ) (p : ℕ → Bool) → p n ≡ true → highest (suc n) p ≡ n
unfolding highest
highest_yes n p h = provided_true n (provided some n p then highest n p else suc n) h

pub highest_no : (n : ℕ) (p : ℕ → Bool) → p n ≡ false → some n p ≡ true → highest (suc n) p ≡ highest n p
unfolding highest
highest_no n p h k = provided_false n (provided some n p then highest n p else suc n) h ∙ provided_true (highest n p) (suc n) k

pub highest_none : (n : ℕ) (p : ℕ → Bool) → some n p ≡ false → highest n p ≡ n
unfolding highest
highest_none zero p h = refl
highest_none (suc n) p h = provided_false _ _ (none→ {n = suc n} p h n (omega arith)) ∙ provided_false _ _ (none_below {i = suc n} n p h (omega arith))

-- where one passes, the highest is below n and passes, and nothing between them does
pub highest_is : (n : ℕ) (p : ℕ → Bool) → some n p ≡ true → (highest n p < n) × (p (highest n p) ≡ true) × ((i : ℕ) → highest n p < i → i < n → p i ≡ false)
unfolding some
highest_is zero p h = absurd (false≢true h)
highest_is (suc n) p h = go (decide (p n)) (λ k. highest_is n p k)
  where
    go : (p n ≡ true) ⊎ (p n ≡ false)
        → (some n p ≡ true → (highest n p < n) × (p (highest n p) ≡ true) × ((i : ℕ) → highest n p < i → i < n → p i ≡ false))
        → (highest (suc n) p < suc n) × (p (highest (suc n) p) ≡ true) × ((i : ℕ) → highest (suc n) p < i → i < suc n → p i ≡ false)
    go (inl k) rec = rw (highest_yes n p k) (omega arith, k, λ (i : ℕ) (a : n < i) (b : i < suc n). absurd (omega arith))
    go (inr k) rec =
        let s : some n p ≡ true = sym (or_no (some n p) k) ∙ h in
        let r = rec s in
        rw (highest_no n p k s) (omega (arith, r.0), r.1, λ (i : ℕ) (a : highest n p < i) (b : i < suc n). last i a b (r.2 i a) (decide (i below n)))
      where
        last : (i : ℕ) → highest n p < i → i < suc n → (i < n → p i ≡ false) → ((i below n) ≡ true) ⊎ ((i below n) ≡ false) → p i ≡ false
        last i a b f (inl l) = f (below→ l)
        last i a b f (inr l) = let e : i ≡ n = omega (arith, not_below→ l) in rw e k

-- a number that passes while nothing between it and n does is the highest
pub highest_at : (n : ℕ) (p : ℕ → Bool) (i : ℕ) → i < n → p i ≡ true → ((j : ℕ) → i < j → j < n → p j ≡ false) → highest n p ≡ i
highest_at n p i h q f = go (decide (highest n p below i)) (decide (i below highest n p))
  where
    found : (highest n p < n) × (p (highest n p) ≡ true) × ((j : ℕ) → highest n p < j → j < n → p j ≡ false)
    found = highest_is n p (→some p i h q)

    go : ((highest n p below i) ≡ true) ⊎ ((highest n p below i) ≡ false) → ((i below highest n p) ≡ true) ⊎ ((i below highest n p) ≡ false) → highest n p ≡ i
    go (inl a) b = absurd (not_both q (found.2 i (below→ a) h))
    go (inr a) (inl b) = absurd (not_both found.1 (f (highest n p) (below→ b) found.0))
    go (inr a) (inr b) = omega (arith, not_below→ a, not_below→ b)

-- counting: tests that agree, and one that passes at one number fewer
pub count_same : (n : ℕ) (p q : ℕ → Bool) → ((i : ℕ) → i < n → p i ≡ q i) → count n p ≡ count n q
unfolding count
count_same zero p q f = refl
count_same (suc n) p q f = rw (count_same n p q (λ (i : ℕ) (h : i < n). f i (omega arith)), f n (omega arith)) refl

pub count_without : (n : ℕ) (p : ℕ → Bool) (t : ℕ) → t < n → p t ≡ true → suc (count n (λ i. p i and fails (i is t))) ≡ count n p
unfolding count
count_without zero p t h k = absurd (not-suc-le-zero h)
count_without (suc n) p t h k = go (decide (n is t)) (λ l. count_without n p t l k)
  where
    go : ((n is t) ≡ true) ⊎ ((n is t) ≡ false) → (t < n → suc (count n (λ i. p i and fails (i is t))) ≡ count n p)
        → suc (provided p n and fails (n is t) then suc (count n (λ i. p i and fails (i is t))) else count n (λ i. p i and fails (i is t))) ≡ (provided p n then suc (count n p) else count n p)
    go (inl e) again =
        let z : n ≡ t = is→ e in
        ap suc (provided_false _ _ (and_no_right _ (→not_fails e)) ∙ count_same n _ p (λ (i : ℕ) (l : i < n). and_true_right (p i) (→fails (→isnt (λ (q : i ≡ t). omega arith)))))
        ∙ sym (provided_true _ _ (rw z k))
    go (inr e) again =
        let z : n ≡ t → ⊥ = isnt→ e in
        let rec : suc (count n (λ i. p i and fails (i is t))) ≡ count n p = again (omega arith) in
        ⊎_elim (λ (q : p n ≡ true). ap suc (provided_true _ _ (→and q (→fails e)) ∙ rec) ∙ sym (provided_true _ _ q))
        (λ (q : p n ≡ false). ap suc (provided_false _ _ (and_no_left _ q)) ∙ rec ∙ sym (provided_false _ _ q)) (decide (p n))

pub none_counted : (n : ℕ) (p : ℕ → Bool) → count n p ≡ 0 → (i : ℕ) → i < n → p i ≡ false
none_counted n p h i k = to_false (p i) (λ q. let z : suc (count n (λ j. p j and fails (j is i))) ≡ count n p = count_without n p i k q in omega arith)
