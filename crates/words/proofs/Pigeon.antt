-- A list of different members of cs is no longer than cs.
use mathlib.Core.Path.{◌≡◌, refl, sym, ap, ◌∙◌}
use mathlib.Core.Bool.{Bool, true, false, false≢true}
use mathlib.Core.Logic.{◌⊎◌, inl, inr, ⊎_elim}
use mathlib.Core.List.{List, [], ◌∷◌}
use Prim.Native.Nat.{ℕ, zero, suc, ◌+◌, ◌≤◌, ◌<◌}
use native.Mathlib.Omega.{arith}
use lib.ListN.{length}
use Rattle.words.specs.Tests.{◌is◌, ◌below◌, provided◌then◌else◌, count}
use Rattle.words.specs.Lists.{member, distinct}
use Rattle.words.proofs.Truth.{decide, not_both, to_false, and→, →and, →fails, is→, isnt→, below→, →below, not_below→, provided_true, provided_false}
use Rattle.words.proofs.Places.{member→, all→, →all, member_at, member_head, member_tail, distinct→}
use Rattle.words.proofs.Search.{rising, ascending}

without : ℕ → List ℕ → List ℕ
without a [] = []
without a (t ∷ l) = provided a is t then l else (t ∷ without a l)

without_length : (a : ℕ) (l : List ℕ) → member a l ≡ true → suc (length (without a l)) ≡ length l
unfolding without member
without_length a [] m = absurd (false≢true m)
without_length a (t ∷ l) m = go (decide (a is t)) (λ k. without_length a l k)
  where
    go : ((a is t) ≡ true) ⊎ ((a is t) ≡ false) → (member a l ≡ true → suc (length (without a l)) ≡ length l)
        → suc (length (provided a is t then l else (t ∷ without a l))) ≡ suc (length l)
    go (inl e) rec = rw (provided_true l (t ∷ without a l) e) refl
    go (inr e) rec =
        rw (provided_false l (t ∷ without a l) e)
        (ap suc (rec (⊎_elim (λ (z : a ≡ t). absurd (isnt→ e z)) (λ z. z) (member→ a t l m))))

without_member : (a b : ℕ) (l : List ℕ) → member b l ≡ true → (b ≡ a → ⊥) → member b (without a l) ≡ true
unfolding without member
without_member a b [] m n = m
without_member a b (t ∷ l) m n = go (decide (a is t)) (member→ b t l m) (λ k. without_member a b l k n)
  where
    go : ((a is t) ≡ true) ⊎ ((a is t) ≡ false) → (b ≡ t) ⊎ (member b l ≡ true) → (member b l ≡ true → member b (without a l) ≡ true)
        → member b (provided a is t then l else (t ∷ without a l)) ≡ true
    go (inl e) (inl k) rec = absurd (n (k ∙ sym (is→ e)))
    go (inl e) (inr k) rec = rw (provided_true l (t ∷ without a l) e) k
    go (inr e) (inl k) rec = rw (provided_false l (t ∷ without a l) e) (member_at b t (without a l) k)
    go (inr e) (inr k) rec = rw (provided_false l (t ∷ without a l) e) (member_tail b t (without a l) (rec k))

pub pigeon : (v cs : List ℕ) → distinct v ≡ true → ((t : ℕ) → member t v ≡ true → member t cs ≡ true) → length v ≤ length cs
pigeon [] cs d f = omega arith
pigeon (a ∷ v) cs d f =
    let r = distinct→ a v d in
    let l : suc (length (without a cs)) ≡ length cs = without_length a cs (f a (member_head a v)) in
    let i : length v ≤ length (without a cs) = pigeon v (without a cs) r.1 (λ (t : ℕ) (m : member t v ≡ true). without_member a t cs (f t (member_tail t a v m)) (λ (e : t ≡ a). not_both m (rw e r.0))) in
    omega arith

-- a rising list has different members
pub rising_distinct : (l : List ℕ) → rising l ≡ true → distinct l ≡ true
unfolding distinct rising
rising_distinct [] r = refl
rising_distinct (a ∷ l) r =
    →and (→fails (to_false _ (λ m. let z : a < a = below→ (all→ _ l (and→ r).0 a m) in omega arith))) (rising_distinct l (and→ r).1)

-- the numbers below n that pass
pub ascending_rises : (n : ℕ) (p : ℕ → Bool) (l : List ℕ) → rising l ≡ true → ((t : ℕ) → member t l ≡ true → n ≤ t) → rising (ascending n p l) ≡ true
unfolding ascending
ascending_rises zero p l r f = r
ascending_rises (suc n) p l r f = go (decide (p n)) (λ l' a b. ascending_rises n p l' a b)
  where
    go : (p n ≡ true) ⊎ (p n ≡ false) → ((l' : List ℕ) → rising l' ≡ true → ((t : ℕ) → member t l' ≡ true → n ≤ t) → rising (ascending n p l') ≡ true)
        → rising (ascending n p (provided p n then n ∷ l else l)) ≡ true
    go (inl e) rec =
        rw (provided_true (n ∷ l) l e)
        (rec (n ∷ l) (unfold rising in (→and (→all _ l (λ t m. →below (f t m))) r))
        (λ t m. ⊎_elim (λ (k : t ≡ n). omega arith) (λ (k : member t l ≡ true). let z : suc n ≤ t = f t k in omega arith) (member→ t n l m)))
    go (inr e) rec = rw (provided_false (n ∷ l) l e) (rec l r (λ t m. let z : suc n ≤ t = f t m in omega arith))

pub ascending_has : (n : ℕ) (p : ℕ → Bool) (l : List ℕ) (t : ℕ) → ((t < n) × (p t ≡ true)) ⊎ (member t l ≡ true) → member t (ascending n p l) ≡ true
unfolding ascending
ascending_has zero p l t (inl h) = absurd (omega (arith, h.0))
ascending_has zero p l t (inr h) = h
ascending_has (suc n) p l t c = ascending_has n p (provided p n then n ∷ l else l) t (go (decide (p n)) c)
  where
    place : ((t < suc n) × (p t ≡ true)) ⊎ (member t l ≡ true) → ((t < n) × (p t ≡ true)) ⊎ ((t ≡ n) × (p t ≡ true)) ⊎ (member t l ≡ true)
    place (inr h) = inr (inr h)
    place (inl h) =
        ⊎_elim (λ (k : (t below n) ≡ true). inl (below→ k, h.1)) (λ (k : (t below n) ≡ false). inr (inl (omega (arith, not_below→ k, h.0), h.1))) (decide (t below n))

    go : (p n ≡ true) ⊎ (p n ≡ false) → ((t < suc n) × (p t ≡ true)) ⊎ (member t l ≡ true)
        → ((t < n) × (p t ≡ true)) ⊎ (member t (provided p n then n ∷ l else l) ≡ true)
    go (inl e) c = ⊎_elim inl (⊎_elim (λ (k : (t ≡ n) × (p t ≡ true)). inr (rw (provided_true (n ∷ l) l e, k.0) (member_head n l))) (λ k. inr (rw (provided_true (n ∷ l) l e) (member_tail t n l k)))) (place c)
    go (inr e) c =
        ⊎_elim inl (⊎_elim (λ (k : (t ≡ n) × (p t ≡ true)). absurd (not_both k.1 (rw k.0 e))) (λ k. inr (rw (provided_false (n ∷ l) l e) k))) (place c)

pub ascending_only : (n : ℕ) (p : ℕ → Bool) (l : List ℕ) (t : ℕ) → member t (ascending n p l) ≡ true → ((t < n) × (p t ≡ true)) ⊎ (member t l ≡ true)
unfolding ascending
ascending_only zero p l t m = inr m
ascending_only (suc n) p l t m = go (decide (p n)) (ascending_only n p (provided p n then n ∷ l else l) t m)
  where
    go : (p n ≡ true) ⊎ (p n ≡ false) → ((t < n) × (p t ≡ true)) ⊎ (member t (provided p n then n ∷ l else l) ≡ true) → ((t < suc n) × (p t ≡ true)) ⊎ (member t l ≡ true)
    go c (inl h) = inl (omega (arith, h.0), h.1)
    go (inl e) (inr h) = ⊎_elim (λ (k : t ≡ n). inl (omega arith, rw k e)) inr (member→ t n l (rw (provided_true (n ∷ l) l e) at h))
    go (inr e) (inr h) = inr (rw (provided_false (n ∷ l) l e) at h)

pub ascending_length : (n : ℕ) (p : ℕ → Bool) (l : List ℕ) → length (ascending n p l) ≡ count n p + length l
unfolding ascending count
ascending_length zero p l = omega arith
ascending_length (suc n) p l = ascending_length n p (provided p n then n ∷ l else l) ∙ go (decide (p n))
  where
    go : (p n ≡ true) ⊎ (p n ≡ false) → count n p + length (provided p n then n ∷ l else l) ≡ (provided p n then suc (count n p) else count n p) + length l
    go (inl e) = rw (provided_true (n ∷ l) l e, provided_true (suc (count n p)) (count n p) e) (omega arith)
    go (inr e) = rw (provided_false (n ∷ l) l e, provided_false (suc (count n p)) (count n p) e) refl
