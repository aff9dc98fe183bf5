-- The number of a step: 3 to 6 by the step alone, and 7, 18 and 8 by the steps accepted.
use mathlib.Core.Path.{◌≡◌, refl, sym, ◌∙◌}
use mathlib.Core.Bool.{Bool, true, false}
use mathlib.Core.Logic.{◌⊎◌, inl, inr, ⊎_elim}
use mathlib.Core.List.{List}
use Prim.Native.Nat.{ℕ, ◌≤◌, ◌<◌}
use native.Mathlib.Omega.{arith}
use Rattle.words.specs.Tests.{◌is◌, ◌below◌, ◌upto◌, ◌and◌, ◌or◌, fails, provided◌then◌else◌}
use Rattle.words.proofs.Truth.{decide, and→, →and, and_no_left, and_no_right, →or_left, →or_right, or_false, →fails, →not_fails, not_fails→, is→, →is, isnt→, →isnt, below→, →below, →not_below, upto→, →upto, →not_upto, provided_true, provided_false}
use Rattle.verdict.specs.Limits.{objects}
use Rattle.verdict.specs.Refusal.{object_allowed}
use Rattle.live.specs.SoFar.{numbers, is_open, passed}
use Rattle.live.specs.Says.{number}
use Rattle.live.specs.Inner.Took.{range_number}
use Rattle.live.proofs.Accepted.{else→}

-- BY THE STEP ALONE
module _ (k t x s : ℕ) where
  pub range_three : (k < 1) ⊎ (5 < k) → 3 ≡ range_number k t x s
  unfolding range_number
  range_three e = sym (provided_true _ _ (→fails (⊎_elim (λ l. and_no_left _ (→not_upto l)) (λ l. and_no_right _ (→not_upto l)) e)))

  module _ (low : 1 ≤ k) (high : k ≤ 5) where
    kind_fine : fails (1 upto k and k upto 5) ≡ false
    kind_fine = →not_fails (→and (→upto low) (→upto high))

    pub range_four : t < 1 → 4 ≡ range_number k t x s
    unfolding range_number
    range_four l = sym (provided_false _ _ kind_fine ∙ provided_true _ _ (→fails (and_no_left _ (→not_upto l))))

    module _ (t_low : 1 ≤ t) (t_high : t < 65536) {o : ℕ} (e : o ≡ (provided k is 2 or k is 3 then 64 else 1)) where
      number_fine : fails (1 upto t and t upto numbers) ≡ false
      number_fine = →not_fails (→and (→upto t_low) (→upto (omega arith)))

      allowed : object_allowed k x ≡ (x below o)
      unfolding object_allowed
      allowed = go (decide (k is 2 or k is 3))
        where
          go : ((k is 2 or k is 3) ≡ true) ⊎ ((k is 2 or k is 3) ≡ false) → (provided k is 2 or k is 3 then x below objects else x is 0) ≡ (x below o)
          go (inl q) = let z : o ≡ 64 = e ∙ provided_true _ _ q in rw z (provided_true _ _ q)
          go (inr q) = let z : o ≡ 1 = e ∙ provided_false _ _ q in rw z (provided_false _ _ q ∙ zero_only (decide (x is 0)))
            where
              zero_only : ((x is 0) ≡ true) ⊎ ((x is 0) ≡ false) → (x is 0) ≡ (x below 1)
              zero_only (inl w) = let y : x ≡ 0 = is→ w in w ∙ sym (→below (omega arith))
              zero_only (inr w) = let y : x ≡ 0 → ⊥ = isnt→ w in w ∙ sym (→not_below (omega arith))

      pub range_five : o ≤ x → 5 ≡ range_number k t x s
      unfolding range_number
      range_five l = sym (provided_false _ _ kind_fine ∙ provided_false _ _ number_fine ∙ provided_true _ _ (→fails (allowed ∙ →not_below l)))

      module _ (l : x < o) where
        object_fine : fails (object_allowed k x) ≡ false
        object_fine = →not_fails (allowed ∙ →below l)

        pub range_six : (s ≡ 0 → ⊥) → (k ≡ 2 → ⊥) → 6 ≡ range_number k t x s
        unfolding range_number
        range_six m n = sym (provided_false _ _ kind_fine ∙ provided_false _ _ number_fine ∙ provided_false _ _ object_fine ∙ provided_true _ _ (→fails (or_false (→isnt n) ∙ →isnt m)))

        pub range_none : (s ≡ 0) ⊎ (k ≡ 2) → 0 ≡ range_number k t x s
        unfolding range_number
        range_none q =
            sym (provided_false _ _ kind_fine ∙ provided_false _ _ number_fine ∙ provided_false _ _ object_fine ∙ provided_false _ _ (→not_fails (⊎_elim (λ z. →or_right _ (→is z)) (λ z. →or_left _ (→is z)) q)))

-- a step in range
module _ (k t x s : ℕ) (fine : 0 ≡ range_number k t x s) where
  pub range_kind : (1 ≤ k) × (k ≤ 5)
  unfolding range_number
  range_kind = let r = and→ (not_fails→ (else→ _ 2 _ (sym fine)).0) in (upto→ r.0, upto→ r.1)

  pub range_low : 1 ≤ t
  unfolding range_number
  range_low = upto→ (and→ (not_fails→ (else→ _ 3 _ (else→ _ 2 _ (sym fine)).1).0)).0

  pub range_object : (k ≡ 2) ⊎ (k ≡ 3) → x < objects
  unfolding range_number object_allowed
  range_object o =
      let q : (k is 2 or k is 3) ≡ true = ⊎_elim (λ (z : k ≡ 2). →or_left _ (→is z)) (λ (z : k ≡ 3). →or_right _ (→is z)) o in
      below→ (sym (provided_true _ _ q) ∙ not_fails→ (else→ _ 4 _ (else→ _ 3 _ (else→ _ 2 _ (sym fine)).1).1).0)

-- the kinds are five
pub only_commit : {k : ℕ} → (1 ≤ k) × (k ≤ 5) → (k ≡ 1 → ⊥) → (k ≡ 2 → ⊥) → (k ≡ 3 → ⊥) → (k ≡ 5 → ⊥) → k ≡ 4
only_commit r a b c d = omega (arith, r.0, r.1)

-- BY THE STEPS ACCEPTED
first_range : (b3 b4 b5 b6 : Bool) (r : ℕ) → (provided b3 then 3 else provided b4 then 4 else provided b5 then 5 else provided b6 then 6 else r)
    ≡ (provided (provided b3 then 3 else provided b4 then 4 else provided b5 then 5 else provided b6 then 6 else 0) is 0 then r else (provided b3 then 3 else provided b4 then 4 else provided b5 then 5 else provided b6 then 6 else 0))
unfolding provided◌then◌else◌
first_range true b4 b5 b6 r = sym (provided_false _ _ (→isnt (λ (e : ◌≡◌ {A = ℕ} 3 0). omega arith)))
first_range false true b5 b6 r = sym (provided_false _ _ (→isnt (λ (e : ◌≡◌ {A = ℕ} 4 0). omega arith)))
first_range false false true b6 r = sym (provided_false _ _ (→isnt (λ (e : ◌≡◌ {A = ℕ} 5 0). omega arith)))
first_range false false false true r = sym (provided_false _ _ (→isnt (λ (e : ◌≡◌ {A = ℕ} 6 0). omega arith)))
first_range false false false false r = sym (provided_true r 0 (→is refl))

module _ (full : List ℕ → Bool) (log : List ℕ) (k t x s : ℕ) where
  split : number numbers full log k t x s
      ≡ (provided range_number k t x s is 0 then (provided k is 1 and passed log t then 7 else provided k is 1 and full log then 18 else provided fails (k is 1 or is_open log t) then 8 else 0) else range_number k t x s)
  unfolding number range_number
  split = first_range (fails (1 upto k and k upto 5)) (fails (1 upto t and t upto numbers)) (fails (object_allowed k x)) (fails (k is 2 or s is 0)) _

  pub number_range : {n : ℕ} → n ≡ range_number k t x s → (n ≡ 0 → ⊥) → number numbers full log k t x s ≡ n
  number_range e d = split ∙ provided_false _ _ (→isnt (λ z. d (e ∙ z))) ∙ sym e

  module _ (fine : 0 ≡ range_number k t x s) where
    life : number numbers full log k t x s ≡ (provided k is 1 and passed log t then 7 else provided k is 1 and full log then 18 else provided fails (k is 1 or is_open log t) then 8 else 0)
    life = split ∙ provided_true _ _ (→is (sym fine))

    module _ (begin : k ≡ 1) where
      pub number_seven : passed log t ≡ true → number numbers full log k t x s ≡ 7
      number_seven p = life ∙ provided_true _ _ (→and (→is begin) p)

      module _ (p : passed log t ≡ false) where
        pub number_eighteen : full log ≡ true → number numbers full log k t x s ≡ 18
        number_eighteen f = life ∙ provided_false _ _ (and_no_right _ p) ∙ provided_true _ _ (→and (→is begin) f)

        pub begin_good : full log ≡ false → number numbers full log k t x s ≡ 0
        begin_good f = life ∙ provided_false _ _ (and_no_right _ p) ∙ provided_false _ _ (and_no_right _ f) ∙ provided_false _ _ (→not_fails (→or_left _ (→is begin)))

    module _ (other : k ≡ 1 → ⊥) where
      later : number numbers full log k t x s ≡ (provided fails (k is 1 or is_open log t) then 8 else 0)
      later = life ∙ provided_false _ _ (and_no_left _ (→isnt other)) ∙ provided_false _ _ (and_no_left _ (→isnt other))

      pub number_eight : is_open log t ≡ false → number numbers full log k t x s ≡ 8
      number_eight o = later ∙ provided_true _ _ (→fails (or_false (→isnt other) ∙ o))

      pub other_good : is_open log t ≡ true → number numbers full log k t x s ≡ 0
      other_good o = later ∙ provided_false _ _ (→not_fails (→or_right _ o))
