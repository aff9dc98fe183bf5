-- Members of a list of different numbers, and their places.
use mathlib.Core.Path.{◌≡◌, refl, sym, ◌∙◌}
use mathlib.Core.Bool.{Bool, true, false, false≢true}
use mathlib.Core.Logic.{◌⊎◌, inl, inr, ⊎_elim}
use mathlib.Core.List.{List, [], ◌∷◌, ◌++◌}
use Prim.Native.Nat.{ℕ}
use Rattle.words.specs.Tests.{◌is◌, ◌and◌}
use Rattle.words.specs.Lists.{member, all, distinct, before}
use Rattle.words.proofs.Truth.{not_both, and→, →and, or→, →or_left, →or_right, fails→, is→, →is}

pub member_head : (a : ℕ) (w : List ℕ) → member a (a ∷ w) ≡ true
unfolding member
member_head a w = →or_left (member a w) (→is refl)

pub member_tail : (a t : ℕ) (w : List ℕ) → member a w ≡ true → member a (t ∷ w) ≡ true
unfolding member
member_tail a t w h = →or_right (a is t) h

-- the first one, under another name
pub member_at : (a t : ℕ) (w : List ℕ) → a ≡ t → member a (t ∷ w) ≡ true
member_at a t w e = rw e (member_head t w)

pub member→ : (a t : ℕ) (w : List ℕ) → member a (t ∷ w) ≡ true → (a ≡ t) ⊎ (member a w ≡ true)
unfolding member
member→ a t w h = ⊎_elim (λ k. inl (is→ k)) inr (or→ h)

-- members of two lists in a row
pub member_left : (t : ℕ) (s u : List ℕ) → member t s ≡ true → member t (s ++ u) ≡ true
unfolding member
member_left t [] u m = absurd (false≢true m)
member_left t (a ∷ s) u m = ⊎_elim (member_at t a (s ++ u)) (λ k. member_tail t a (s ++ u) (member_left t s u k)) (member→ t a s m)

pub member_right : (t : ℕ) (s u : List ℕ) → member t u ≡ true → member t (s ++ u) ≡ true
member_right t [] u m = m
member_right t (a ∷ s) u m = member_tail t a (s ++ u) (member_right t s u m)

pub member_either : (t : ℕ) (s u : List ℕ) → member t (s ++ u) ≡ true → (member t s ≡ true) ⊎ (member t u ≡ true)
member_either t [] u m = inr m
member_either t (a ∷ s) u m =
    ⊎_elim (λ (e : t ≡ a). inl (rw e (member_head a s))) (λ k. ⊎_elim (λ l. inl (member_tail t a s l)) inr (member_either t s u k)) (member→ t a (s ++ u) m)

pub all→ : (p : ℕ → Bool) (w : List ℕ) → all p w ≡ true → (a : ℕ) → member a w ≡ true → p a ≡ true
unfolding all member
all→ p [] h a m = absurd (false≢true m)
all→ p (t ∷ w) h a m = ⊎_elim (λ (e : a ≡ t). rw e (and→ h).0) (λ k. all→ p w (and→ h).1 a k) (member→ a t w m)

pub →all : (p : ℕ → Bool) (w : List ℕ) → ((a : ℕ) → member a w ≡ true → p a ≡ true) → all p w ≡ true
unfolding all
→all p [] f = refl
→all p (t ∷ w) f = →and (f t (member_head t w)) (→all p w (λ a m. f a (member_tail a t w m)))

pub before→ : (a b t : ℕ) (w : List ℕ) → before a b (t ∷ w) ≡ true → ((a ≡ t) × (member b w ≡ true)) ⊎ (before a b w ≡ true)
unfolding before
before→ a b t w h = ⊎_elim (λ k. inl (is→ (and→ k).0, (and→ k).1)) inr (or→ h)

pub before_head : (t b : ℕ) (w : List ℕ) → member b w ≡ true → before t b (t ∷ w) ≡ true
unfolding before
before_head t b w m = →or_left (before t b w) (→and (→is refl) m)

pub before_tail : (a b t : ℕ) (w : List ℕ) → before a b w ≡ true → before a b (t ∷ w) ≡ true
unfolding before
before_tail a b t w h = →or_right (a is t and member b w) h

pub before_left : (a b : ℕ) (w : List ℕ) → before a b w ≡ true → member a w ≡ true
unfolding before
before_left a b [] h = absurd (false≢true h)
before_left a b (t ∷ w) h =
    ⊎_elim (λ (k : (a ≡ t) × (member b w ≡ true)). rw k.0 (member_head t w)) (λ k. member_tail a t w (before_left a b w k)) (before→ a b t w h)

pub before_right : (a b : ℕ) (w : List ℕ) → before a b w ≡ true → member b w ≡ true
unfolding before
before_right a b [] h = absurd (false≢true h)
before_right a b (t ∷ w) h =
    ⊎_elim (λ (k : (a ≡ t) × (member b w ≡ true)). member_tail b t w k.1) (λ k. member_tail b t w (before_right a b w k)) (before→ a b t w h)

-- in a list of different numbers
pub distinct→ : (t : ℕ) (w : List ℕ) → distinct (t ∷ w) ≡ true → (member t w ≡ false) × (distinct w ≡ true)
unfolding distinct
distinct→ t w d = (fails→ (and→ d).0, (and→ d).1)

-- .. nothing stands before the head
pub none_before_head : (a t : ℕ) (w : List ℕ) → distinct (t ∷ w) ≡ true → before a t (t ∷ w) ≡ true → ⊥
none_before_head a t w d h =
    let m : member t w ≡ false = (distinct→ t w d).0 in
    ⊎_elim (λ (k : (a ≡ t) × (member t w ≡ true)). not_both k.1 m) (λ k. not_both (before_right a t w k) m) (before→ a t t w h)

pub before_irreflexive : (a : ℕ) (w : List ℕ) → distinct w ≡ true → before a a w ≡ true → ⊥
unfolding before
before_irreflexive a [] d h = false≢true h
before_irreflexive a (t ∷ w) d h =
    ⊎_elim (λ (k : (a ≡ t) × (member a w ≡ true)). not_both k.1 (rw k.0 (distinct→ t w d).0))
    (λ k. before_irreflexive a w (distinct→ t w d).1 k) (before→ a a t w h)

-- the first one, under another name, stands before every later member
before_at : (a c t : ℕ) (w : List ℕ) → a ≡ t → member c w ≡ true → before a c (t ∷ w) ≡ true
before_at a c t w e m = rw e (before_head t c w m)

pub before_trans : (a b c : ℕ) (w : List ℕ) → distinct w ≡ true → before a b w ≡ true → before b c w ≡ true → before a c w ≡ true
unfolding before
before_trans a b c [] d h k = h
before_trans a b c (t ∷ w) d h k = go (before→ a b t w h) (before→ b c t w k) (before_trans a b c w (distinct→ t w d).1)
  where
    go : ((a ≡ t) × (member b w ≡ true)) ⊎ (before a b w ≡ true) → ((b ≡ t) × (member c w ≡ true)) ⊎ (before b c w ≡ true)
        → (before a b w ≡ true → before b c w ≡ true → before a c w ≡ true) → before a c (t ∷ w) ≡ true
    go (inl p) (inl q) rec = before_at a c t w p.0 q.1
    go (inl p) (inr q) rec = before_at a c t w p.0 (before_right b c w q)
    go (inr p) (inl q) rec = absurd (not_both (before_right a b w p) (rw q.0 (distinct→ t w d).0))
    go (inr p) (inr q) rec = before_tail a c t w (rec p q)

pub before_asym : (a b : ℕ) (w : List ℕ) → distinct w ≡ true → before a b w ≡ true → before b a w ≡ true → ⊥
before_asym a b w d h k = before_irreflexive a w d (before_trans a b a w d h k)

-- of two different members one stands before the other
pub before_total : (a b : ℕ) (w : List ℕ) → member a w ≡ true → member b w ≡ true → (a ≡ b → ⊥) → (before a b w ≡ true) ⊎ (before b a w ≡ true)
unfolding member
before_total a b [] m k n = absurd (false≢true m)
before_total a b (t ∷ w) m k n = go (member→ a t w m) (member→ b t w k) (λ p q. before_total a b w p q n)
  where
    go : (a ≡ t) ⊎ (member a w ≡ true) → (b ≡ t) ⊎ (member b w ≡ true)
        → (member a w ≡ true → member b w ≡ true → (before a b w ≡ true) ⊎ (before b a w ≡ true))
        → (before a b (t ∷ w) ≡ true) ⊎ (before b a (t ∷ w) ≡ true)
    go (inl p) (inl q) rec = absurd (n (p ∙ sym q))
    go (inl p) (inr q) rec = inl (rw p (before_head t b w q))
    go (inr p) (inl q) rec = inr (rw q (before_head t a w p))
    go (inr p) (inr q) rec = ⊎_elim (λ h. inl (before_tail a b t w h)) (λ h. inr (before_tail b a t w h)) (rec p q)
