-- How far a transaction has come before a step, which of 7 and 8 follows from it, and what is noted of it.
use mathlib.Core.Path.{◌≡◌, refl, sym, ◌∙◌}
use mathlib.Core.Bool.{Bool, true, false}
use mathlib.Core.Logic.{◌⊎◌, inl, inr, ⊎_elim}
use mathlib.Core.List.{List}
use Prim.Native.Nat.{ℕ, suc, ◌+◌, ◌≤◌, ◌<◌}
use native.Mathlib.Omega.{arith}
use lib.ListN.{get_or, set, replicate, length-set, length-replicate, get_or-replicate}
use lib.Seq.{get_or-set_same, get_or-set_other}
use Rattle.words.specs.Tests.{◌is◌, ◌and◌, ◌or◌, fails, provided◌then◌else◌, some}
use Rattle.words.proofs.Truth.{decide, not_both, to_false, →and, and_no_left, and_no_right, →or_left, →or_right, or_no, is→, →is, isnt→, →isnt, provided_true, provided_false, →some, some_skip, some_next}
use Rattle.verdict.specs.Limits.{transactions}
use Rattle.verdict.specs.Log.{steps, kind, tx, begins, commits, aborts, begun, ended}
use Rattle.verdict.specs.Refusal.{tried, life_refusal, open_refusal}
use Rattle.verdict.specs.Inner.Checking.{life, open_by_lives, Lived}
use Rattle.verdict.specs.Answers.{Passed, Refused}
use Rattle.verdict.proofs.Numbers.{begun_again, begins_now, not_begun, has_ended, under_way}
use Rattle.verdict.proofs.Refused.{tried_same}

-- WHAT IT TELLS
module _ (log : List ℕ) (i t : ℕ) where
  pub life_fresh : begun log i t ≡ false → life log i t ≡ 0
  unfolding life
  life_fresh b = provided_false _ _ b

  pub life_open : begun log i t ≡ true → ended log i t ≡ false → life log i t ≡ 1
  unfolding life
  life_open b e = provided_true _ _ b ∙ provided_false _ _ e

  pub life_over : begun log i t ≡ true → ended log i t ≡ true → life log i t ≡ 2
  unfolding life
  life_over b e = provided_true _ _ b ∙ provided_true _ _ e

  -- open exactly when begun and not ended
  pub open_is : (life log i t is 1) ≡ (begun log i t and fails (ended log i t))
  unfolding life provided◌then◌else◌ ◌is◌ ◌and◌ fails
  open_is = go (begun log i t) (ended log i t)
    where
      go : (b e : Bool) → ((provided b then (provided e then 2 else 1) else 0) is 1) ≡ (b and fails e)
      go true true = refl
      go true false = refl
      go false e = refl

-- WHICH OF 7 AND 8 FOLLOWS
module _ (log : List ℕ) (i : ℕ) where
  -- what is awaited
  module _ (same : life log i (tx log i) ≡ (provided kind log i is 1 then 0 else 1)) where
    pub life_passes : life_refusal log i ≡ Passed
    life_passes = go (decide (kind log i is 1)) (decide (begun log i (tx log i))) (decide (ended log i (tx log i)))
      where
        go : ((kind log i is 1) ≡ true) ⊎ ((kind log i is 1) ≡ false) → (begun log i (tx log i) ≡ true) ⊎ (begun log i (tx log i) ≡ false)
            → (ended log i (tx log i) ≡ true) ⊎ (ended log i (tx log i) ≡ false) → life_refusal log i ≡ Passed
        go (inl k) (inr b) e = begins_now log i (is→ k) b
        go (inl k) (inl b) (inl e) = absurd (differ (sym (life_over log i (tx log i) b e) ∙ same ∙ provided_true _ _ k))
          where
            differ : ◌≡◌ {A = ℕ} 2 0 → ⊥
            differ z = omega arith
        go (inl k) (inl b) (inr e) = absurd (differ (sym (life_open log i (tx log i) b e) ∙ same ∙ provided_true _ _ k))
          where
            differ : ◌≡◌ {A = ℕ} 1 0 → ⊥
            differ z = omega arith
        go (inr k) (inl b) (inr e) = under_way log i (isnt→ k) b e
        go (inr k) (inl b) (inl e) = absurd (differ (sym (life_over log i (tx log i) b e) ∙ same ∙ provided_false _ _ k))
          where
            differ : ◌≡◌ {A = ℕ} 2 1 → ⊥
            differ z = omega arith
        go (inr k) (inr b) e = absurd (differ (sym (life_fresh log i (tx log i) b) ∙ same ∙ provided_false _ _ k))
          where
            differ : ◌≡◌ {A = ℕ} 0 1 → ⊥
            differ z = omega arith

  -- anything else
  module _ (other : life log i (tx log i) ≡ (provided kind log i is 1 then 0 else 1) → ⊥) where
    life_7 : kind log i ≡ 1 → life_refusal log i ≡ Refused 7 i
    life_7 k = go (decide (begun log i (tx log i)))
      where
        go : (begun log i (tx log i) ≡ true) ⊎ (begun log i (tx log i) ≡ false) → life_refusal log i ≡ Refused 7 i
        go (inl b) = begun_again log i k b
        go (inr b) = absurd (other (life_fresh log i (tx log i) b ∙ sym (provided_true _ _ (→is k))))

    life_8 : (kind log i ≡ 1 → ⊥) → life_refusal log i ≡ Refused 8 i
    life_8 k = go (decide (begun log i (tx log i))) (decide (ended log i (tx log i)))
      where
        go : (begun log i (tx log i) ≡ true) ⊎ (begun log i (tx log i) ≡ false) → (ended log i (tx log i) ≡ true) ⊎ (ended log i (tx log i) ≡ false) → life_refusal log i ≡ Refused 8 i
        go (inr b) e = not_begun log i k b
        go (inl b) (inl e) = has_ended log i k e
        go (inl b) (inr e) = absurd (other (life_open log i (tx log i) b e ∙ sym (provided_false _ _ (→isnt k))))

    -- the number that its kind gets
    pub life_late : {n : ℕ} → n ≡ (provided kind log i is 1 then 7 else 8) → life_refusal log i ≡ Refused n i
    life_late e =
        ⊎_elim (λ k. rw (e ∙ provided_true _ _ k) (life_7 (is→ k))) (λ k. rw (e ∙ provided_false _ _ k) (life_8 (isnt→ k))) (decide (kind log i is 1))

-- after the last step, the table says who is open
pub open_lived : (log : List ℕ) {l : List ℕ} → Lived log (steps log) l → tried (suc transactions) (open_by_lives l) ≡ tried (suc transactions) (open_refusal log)
unfolding open_by_lives open_refusal
open_lived log {l} lived = tried_same _ _ _ (λ (t : ℕ) (h : t < suc transactions). rw (lived.far t (omega arith), open_is log (steps log) t) refl)

-- WHAT IS NOTED
-- before the first step nobody has begun
pub lived_none : (log : List ℕ) (m : ℕ) → m ≡ suc transactions → Lived log 0 (replicate m 0)
unfolding begun ended some
lived_none log m e = record {
  size = length-replicate m 0 ∙ e;
  far = λ (t : ℕ) (h : t ≤ transactions). get_or-replicate m t 0 0 (omega arith) ∙ sym (life_fresh log 0 t refl);
  after_begin = λ t h. h;
}

-- one step more
module _ (log : List ℕ) (i : ℕ) {l : List ℕ} (lived : Lived log i l) where
  begun_on : (t : ℕ) → begun log i t ≡ true → begun log (i + 1) t ≡ true
  unfolding begun
  begun_on t b = some_next i (begins log t) ∙ →or_left _ b

  -- t neither begins nor ends there
  module _ (t : ℕ) (b : begins log t i ≡ false) (e : (commits log t i or aborts log t i) ≡ false) where
    same_life : life log (i + 1) t ≡ life log i t
    unfolding life begun ended
    same_life = rw (some_skip i (begins log t) b, some_skip i (λ j. commits log t j or aborts log t j) e) refl

    still_after : ended log (i + 1) t ≡ true → begun log (i + 1) t ≡ true
    unfolding ended
    still_after h = begun_on t (lived.after_begin t (sym (some_skip i (λ j. commits log t j or aborts log t j) e) ∙ h))

  no_begin : (t : ℕ) → (kind log i ≡ 1 → ⊥) ⊎ (t ≡ tx log i → ⊥) → begins log t i ≡ false
  unfolding begins
  no_begin t o = ⊎_elim (λ k. and_no_left _ (→isnt k)) (λ n. and_no_right _ (→isnt (λ q. n (sym q)))) o

  no_end : (t : ℕ) → ((kind log i ≡ 4 → ⊥) × (kind log i ≡ 5 → ⊥)) ⊎ (t ≡ tx log i → ⊥) → (commits log t i or aborts log t i) ≡ false
  unfolding commits aborts
  no_end t o =
      ⊎_elim (λ k. or_no _ (and_no_left _ (→isnt k.1)) ∙ and_no_left _ (→isnt k.0))
      (λ n. or_no _ (and_no_right _ (→isnt (λ q. n (sym q)))) ∙ and_no_right _ (→isnt (λ q. n (sym q)))) o

  -- which neither begins nor ends a transaction
  pub lived_on : (kind log i ≡ 1 → ⊥) → (kind log i ≡ 4 → ⊥) → (kind log i ≡ 5 → ⊥) → Lived log (i + 1) l
  lived_on k m n = record {
    size = lived.size;
    far = λ t h. lived.far t h ∙ sym (same_life t (no_begin t (inl k)) (no_end t (inl (m, n))));
    after_begin = λ t. still_after t (no_begin t (inl k)) (no_end t (inl (m, n)));
  }

  -- which does, so that the transaction has come as far as v
  module _ (v : ℕ) (new : life log (i + 1) (tx log i) ≡ v) (after : ended log (i + 1) (tx log i) ≡ true → begun log (i + 1) (tx log i) ≡ true) (h : tx log i ≤ transactions) where
    lived_set : Lived log (i + 1) (set l (tx log i) v)
    lived_set = record {
      size = length-set l (tx log i) v ∙ lived.size;
      far = λ t m. far t m (decide (t is tx log i));
      after_begin = λ t. late t (decide (t is tx log i));
    }
      where
        far : (t : ℕ) → t ≤ transactions → ((t is tx log i) ≡ true) ⊎ ((t is tx log i) ≡ false) → get_or (set l (tx log i) v) t 0 ≡ life log (i + 1) t
        far t m (inl q) = let z : t ≡ tx log i = is→ q in rw (z, get_or-set_same l (tx log i) v 0 (omega (arith, lived.size))) (sym new)
        far t m (inr q) = get_or-set_other l (tx log i) t v 0 (isnt→ q) ∙ lived.far t m ∙ sym (same_life t (no_begin t (inr (isnt→ q))) (no_end t (inr (isnt→ q))))

        late : (t : ℕ) → ((t is tx log i) ≡ true) ⊎ ((t is tx log i) ≡ false) → ended log (i + 1) t ≡ true → begun log (i + 1) t ≡ true
        late t (inl q) = let z : t ≡ tx log i = is→ q in rw z after
        late t (inr q) = still_after t (no_begin t (inr (isnt→ q))) (no_end t (inr (isnt→ q)))

  pub lived_begin : kind log i ≡ 1 → tx log i ≤ transactions → begun log i (tx log i) ≡ false → Lived log (i + 1) (set l (tx log i) 1)
  unfolding begun begins ended
  lived_begin k h b = lived_set 1 (life_open log (i + 1) (tx log i) now ends_not) (λ e. now) h
    where
      now : begun log (i + 1) (tx log i) ≡ true
      now = →some _ i (omega arith) (→and (→is k) (→is refl))

      ends_not : ended log (i + 1) (tx log i) ≡ false
      ends_not =
          some_skip i (λ j. commits log (tx log i) j or aborts log (tx log i) j) (no_end (tx log i) (inl (λ (q : kind log i ≡ 4). omega arith, λ (q : kind log i ≡ 5). omega arith)))
          ∙ to_false _ (λ e. not_both (lived.after_begin (tx log i) e) b)

  pub lived_end : (kind log i ≡ 4) ⊎ (kind log i ≡ 5) → tx log i ≤ transactions → begun log i (tx log i) ≡ true → Lived log (i + 1) (set l (tx log i) 2)
  unfolding ended commits aborts
  lived_end k h b = lived_set 2 (life_over log (i + 1) (tx log i) (begun_on (tx log i) b) over) (λ e. begun_on (tx log i) b) h
    where
      over : ended log (i + 1) (tx log i) ≡ true
      over = →some _ i (omega arith) (⊎_elim (λ m. →or_left _ (→and (→is m) (→is refl))) (λ m. →or_right _ (→and (→is m) (→is refl))) k)
