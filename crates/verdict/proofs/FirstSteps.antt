-- A table of the steps at which transactions begin, or commit, filled from the first step on.
use mathlib.Core.Path.{◌≡◌, refl, sym, ◌∙◌}
use mathlib.Core.Bool.{true, false}
use mathlib.Core.Logic.{◌⊎◌, inl, inr}
use mathlib.Core.List.{List}
use Prim.Native.Nat.{ℕ, suc, ◌+◌, ◌≤◌, ◌<◌}
use native.Mathlib.Omega.{arith}
use lib.ListN.{get_or, set, replicate, length-set, length-replicate, get_or-replicate}
use lib.Seq.{get_or-set_same, get_or-set_other}
use Rattle.words.specs.Tests.{◌is◌, some, lowest}
use Rattle.words.proofs.Truth.{decide, not_both, and→, →and, is→, →is, isnt→, →some, none→, none_below, lowest_is, lowest_none}
use Rattle.verdict.specs.Limits.{transactions}
use Rattle.verdict.specs.Log.{steps, kind, tx}
use Rattle.verdict.specs.Inner.Marks.{does, FirstSteps}
use Rattle.verdict.specs.Inner.Checking.{StepsBefore}

module _ (log : List ℕ) (k : ℕ) where
  -- before the first step
  pub steps_none : (m n : ℕ) → m ≡ suc transactions → n ≡ steps log → StepsBefore log k 0 (replicate m n)
  steps_none m n e f = record {
    size = length-replicate m n ∙ e;
    none = λ (t : ℕ) (h : t ≤ transactions) q. get_or-replicate m t n 0 (omega arith) ∙ f;
    one = λ t h (j : ℕ) (l : j < 0) d. absurd (omega arith);
  }

  -- one step more
  module _ (i : ℕ) {table : List ℕ} (known : StepsBefore log k i table) where
    earlier : (t j : ℕ) → (does log k t i ≡ true → ⊥) → j < i + 1 → does log k t j ≡ true → j < i
    earlier t j n l d = go (decide (j is i))
      where
        go : ((j is i) ≡ true) ⊎ ((j is i) ≡ false) → j < i
        go (inl q) = let e : j ≡ i = is→ q in absurd (n (rw e at d))
        go (inr q) = let e : j ≡ i → ⊥ = isnt→ q in omega arith

    -- of another kind
    pub steps_skip : (kind log i ≡ k → ⊥) → StepsBefore log k (i + 1) table
    unfolding does
    steps_skip n = record {
      size = known.size;
      none = λ t h e. known.none t h (none_below i _ e (omega arith));
      one = λ t h j l d. known.one t h j (earlier t j (λ e. n (is→ (and→ e).0)) l d) d;
    }

    -- of this kind, by one that had none
    pub steps_more : kind log i ≡ k → tx log i ≤ transactions → some i (does log k (tx log i)) ≡ false → StepsBefore log k (i + 1) (set table (tx log i) i)
    unfolding does
    steps_more e m new = record {
      size = length-set table (tx log i) i ∙ known.size;
      none = λ t h q. absent t h q (decide (t is tx log i));
      one = λ t h j l d. present t h j l d (decide (t is tx log i));
    }
      where
        here : does log k (tx log i) i ≡ true
        here = →and (→is e) (→is refl)

        other : (t : ℕ) → (t ≡ tx log i → ⊥) → does log k t i ≡ true → ⊥
        other t n d = n (sym (is→ (and→ d).1))

        absent : (t : ℕ) → t ≤ transactions → some (i + 1) (does log k t) ≡ false → ((t is tx log i) ≡ true) ⊎ ((t is tx log i) ≡ false) → get_or (set table (tx log i) i) t 0 ≡ steps log
        absent t h q (inl a) = let z : t ≡ tx log i = is→ a in absurd (not_both (→some _ i (omega arith) here) (rw z at q))
        absent t h q (inr a) = get_or-set_other table (tx log i) t i 0 (isnt→ a) ∙ known.none t h (none_below i _ q (omega arith))

        present : (t : ℕ) → t ≤ transactions → (j : ℕ) → j < i + 1 → does log k t j ≡ true → ((t is tx log i) ≡ true) ⊎ ((t is tx log i) ≡ false) → get_or (set table (tx log i) i) t 0 ≡ j
        present t h j l d (inl a) =
            let z : t ≡ tx log i = is→ a in
            let n : j < i → ⊥ = λ b. not_both (rw z at d) (none→ _ new j b) in
            rw z (get_or-set_same table (tx log i) i 0 (omega (arith, known.size))) ∙ the_same n l
          where
            the_same : (j < i → ⊥) → j < i + 1 → i ≡ j
            the_same n l = omega arith
        present t h j l d (inr a) = get_or-set_other table (tx log i) t i 0 (isnt→ a) ∙ known.one t h j (earlier t j (other t (isnt→ a)) l d) d

  -- after the last step
  pub steps_all : {table : List ℕ} → StepsBefore log k (steps log) table → FirstSteps log k table
  steps_all {table} known = record { entry = λ t h. go t h (decide (some (steps log) (does log k t))) }
    where
      go : (t : ℕ) → t ≤ transactions → (some (steps log) (does log k t) ≡ true) ⊎ (some (steps log) (does log k t) ≡ false) → get_or table t 0 ≡ lowest (steps log) (does log k t)
      go t h (inl s) = let r = lowest_is (does log k t) s in known.one t h _ r.0 r.1
      go t h (inr n) = known.none t h n ∙ sym (lowest_none _ n)
