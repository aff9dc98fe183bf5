-- The members of a list that pass a test, in their order; and the first of a list that passes.
use mathlib.Core.Path.{◌≡◌, refl}
use mathlib.Core.Bool.{Bool, true, false, false≢true}
use mathlib.Core.Logic.{◌⊎◌, inl, inr, ⊎_elim}
use mathlib.Core.List.{List, [], ◌∷◌}
use Prim.Native.Nat.{ℕ}
use Rattle.words.specs.Tests.{provided◌then◌else◌}
use Rattle.words.specs.Lists.{member, distinct, before}
use Rattle.words.proofs.Truth.{decide, not_both, to_false, →and, →fails, provided_true, provided_false}
use Rattle.words.proofs.Places.{member_head, member_tail, member→, before→, before_head, before_tail, before_right, distinct→}

unfoldable pub passing : (ℕ → Bool) → List ℕ → List ℕ
passing p [] = []
passing p (t ∷ w) = provided p t then t ∷ passing p w else passing p w

module _ (p : ℕ → Bool) where
  takes : (t : ℕ) (w : List ℕ) → p t ≡ true → passing p (t ∷ w) ≡ t ∷ passing p w
  unfolding passing
  takes t w h = provided_true _ _ h

  leaves : (t : ℕ) (w : List ℕ) → p t ≡ false → passing p (t ∷ w) ≡ passing p w
  unfolding passing
  leaves t w h = provided_false _ _ h

  pub passing_member : (a : ℕ) (w : List ℕ) → member a (passing p w) ≡ true → (member a w ≡ true) × (p a ≡ true)
  passing_member a [] m = absurd (false≢true (unfold passing member in m))
  passing_member a (t ∷ w) m = go (decide (p t)) (λ k. passing_member a w k)
    where
      go : (p t ≡ true) ⊎ (p t ≡ false) → (member a (passing p w) ≡ true → (member a w ≡ true) × (p a ≡ true)) → (member a (t ∷ w) ≡ true) × (p a ≡ true)
      go (inl e) rec =
          ⊎_elim (λ (z : a ≡ t). rw z (member_head t w, e)) (λ k. let r = rec k in (member_tail a t w r.0, r.1)) (member→ a t (passing p w) (rw (takes t w e) at m))
      go (inr e) rec = let r = rec (rw (leaves t w e) at m) in (member_tail a t w r.0, r.1)

  pub member_passing : (a : ℕ) (w : List ℕ) → member a w ≡ true → p a ≡ true → member a (passing p w) ≡ true
  member_passing a [] m q = absurd (false≢true (unfold member in m))
  member_passing a (t ∷ w) m q = go (decide (p t)) (member→ a t w m) (λ k. member_passing a w k q)
    where
      go : (p t ≡ true) ⊎ (p t ≡ false) → (a ≡ t) ⊎ (member a w ≡ true) → (member a w ≡ true → member a (passing p w) ≡ true) → member a (passing p (t ∷ w)) ≡ true
      go (inl e) (inl z) rec = rw (takes t w e, z) (member_head t (passing p w))
      go (inl e) (inr k) rec = rw (takes t w e) (member_tail a t (passing p w) (rec k))
      go (inr e) (inl z) rec = absurd (not_both q (rw z e))
      go (inr e) (inr k) rec = rw (leaves t w e) (rec k)

  pub passing_distinct : (w : List ℕ) → distinct w ≡ true → distinct (passing p w) ≡ true
  passing_distinct [] d = unfold passing distinct in refl
  passing_distinct (t ∷ w) d = go (decide (p t)) (passing_distinct w (distinct→ t w d).1)
    where
      go : (p t ≡ true) ⊎ (p t ≡ false) → distinct (passing p w) ≡ true → distinct (passing p (t ∷ w)) ≡ true
      go (inl e) rec = rw (takes t w e) (unfold distinct in (→and (→fails (to_false _ (λ m. not_both (passing_member t w m).0 (distinct→ t w d).0))) rec))
      go (inr e) rec = rw (leaves t w e) rec

  pub passing_before : (a b : ℕ) (w : List ℕ) → before a b (passing p w) ≡ true → before a b w ≡ true
  passing_before a b [] m = absurd (false≢true (unfold passing before in m))
  passing_before a b (t ∷ w) m = go (decide (p t)) (λ k. passing_before a b w k)
    where
      go : (p t ≡ true) ⊎ (p t ≡ false) → (before a b (passing p w) ≡ true → before a b w ≡ true) → before a b (t ∷ w) ≡ true
      go (inl e) rec =
          ⊎_elim (λ (r : (a ≡ t) × (member b (passing p w) ≡ true)). rw r.0 (before_head t b w (passing_member b w r.1).0)) (λ k. before_tail a b t w (rec k)) (before→ a b t (passing p w) (rw (takes t w e) at m))
      go (inr e) rec = before_tail a b t w (rec (rw (leaves t w e) at m))

  pub before_passing : (a b : ℕ) (w : List ℕ) → before a b w ≡ true → p a ≡ true → p b ≡ true → before a b (passing p w) ≡ true
  before_passing a b [] m q r = absurd (false≢true (unfold before in m))
  before_passing a b (t ∷ w) m q r = go (decide (p t)) (before→ a b t w m) (λ k. before_passing a b w k q r)
    where
      go : (p t ≡ true) ⊎ (p t ≡ false) → ((a ≡ t) × (member b w ≡ true)) ⊎ (before a b w ≡ true) → (before a b w ≡ true → before a b (passing p w) ≡ true) → before a b (passing p (t ∷ w)) ≡ true
      go (inl e) (inl z) rec = rw (takes t w e, z.0) (before_head t b (passing p w) (member_passing b w z.1 r))
      go (inl e) (inr k) rec = rw (takes t w e) (before_tail a b t (passing p w) (rec k))
      go (inr e) (inl z) rec = absurd (not_both q (rw z.0 e))
      go (inr e) (inr k) rec = rw (leaves t w e) (rec k)

  -- the first of w that passes: a member that passes, and none before it does
  pub record FirstOf (w : List ℕ) : Type 0 where
    pub one : ℕ
    pub inside : member one w ≡ true
    pub passes : p one ≡ true
    pub none_before : (a : ℕ) → before a one w ≡ true → p a ≡ false

  pub first_of : (u : ℕ) (w : List ℕ) → distinct w ≡ true → member u w ≡ true → p u ≡ true → FirstOf w
  first_of u [] d m q = absurd (false≢true (unfold member in m))
  first_of u (t ∷ w) d m q = go (decide (p t)) (member→ u t w m) (λ k. first_of u w (distinct→ t w d).1 k q)
    where
      go : (p t ≡ true) ⊎ (p t ≡ false) → (u ≡ t) ⊎ (member u w ≡ true) → (member u w ≡ true → FirstOf w) → FirstOf (t ∷ w)
      go (inl e) z rec =
          record {
            one = t;
            inside = member_head t w;
            passes = e;
            none_before = λ a b. absurd (⊎_elim (λ (r : (a ≡ t) × (member t w ≡ true)). not_both r.1 (distinct→ t w d).0) (λ k. not_both (before_right a t w k) (distinct→ t w d).0) (before→ a t t w b));
          }
      go (inr e) (inl z) rec = absurd (not_both q (rw z e))
      go (inr e) (inr k) rec =
          let f = rec k in
          record {
            one = f.one;
            inside = member_tail f.one t w f.inside;
            passes = f.passes;
            none_before = λ a b. ⊎_elim (λ (r : (a ≡ t) × (member f.one w ≡ true)). rw r.0 e) (λ l. f.none_before a l) (before→ a f.one t w b);
          }
