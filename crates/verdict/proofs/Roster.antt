-- The list of the committed transactions, filled by one walk over the numbers of transactions.
use mathlib.Core.Path.{◌≡◌, refl, sym, ap, ◌∙◌}
use mathlib.Core.Bool.{true, false}
use mathlib.Core.Logic.{◌⊎◌, inl, inr}
use mathlib.Core.List.{List}
use Prim.Native.Nat.{ℕ, suc, ◌+◌, ◌≤◌, ◌<◌}
use native.Mathlib.Omega.{arith}
use native.Mathlib.Numerals.{add-one}
use lib.ListN.{length, get_or, set, replicate, length-set, length-replicate}
use lib.Seq.{get_or-set_same, get_or-set_other}
use Rattle.words.specs.Tests.{◌is◌, count}
use Rattle.words.proofs.Truth.{decide, not_both, to_false, is→, isnt→, count_yes, count_no, count_upto}
use Rattle.verdict.specs.Limits.{transactions, most_searched}
use Rattle.verdict.specs.Log.{committed, committed_count}
use Rattle.verdict.specs.Inner.Placing.{CommittedList}
use Rattle.verdict.proofs.WellFormed.{Well}
use Rattle.verdict.proofs.Versions.{committed_range, not_zero}
use Rattle.verdict.proofs.Counted.{committed_fit}

-- the first n entries are the committed ones below t, the lowest first
pub record Listed (log : List ℕ) (t n : ℕ) (list : List ℕ) : Type 0 where
  pub size : length list ≡ most_searched
  pub each : (i : ℕ) → i < n → (committed log (get_or list i 0) ≡ true) × (get_or list i 0 < t)
  pub rising : (i j : ℕ) → i < j → j < n → get_or list i 0 < get_or list j 0
  pub every_one : (u : ℕ) → committed log u ≡ true → u < t → (i : ℕ) × (i < n) × (get_or list i 0 ≡ u)
  pub counted : n ≡ count t (committed log)

module _ (log : List ℕ) (well : Well transactions log) where
  -- there is none below 1
  pub none_listed : Listed log 1 0 (replicate most_searched 0)
  unfolding count
  none_listed = record {
    size = length-replicate {A = ℕ} most_searched 0;
    each = λ (i : ℕ) (h : i < 0). absurd (omega arith);
    rising = λ (i j : ℕ) (k : i < j) (h : j < 0). absurd (omega arith);
    every_one = λ (u : ℕ) c (h : u < 1). absurd (omega (arith, (committed_range log well u c).0));
    counted = sym (count_no 0 (committed log) (to_false _ (λ c. not_zero log well 0 c refl)));
  }

  module _ {t n : ℕ} {list : List ℕ} (listed : Listed log t n list) where
    -- there is room for one more
    pub listed_room : committed_count log ≤ most_searched → t ≤ transactions → committed log t ≡ true → n < most_searched
    listed_room few h c = omega (arith, listed.counted, count_yes t (committed log) c, count_upto (t + 1) (suc transactions) (committed log) (omega arith), committed_fit log well)

    -- one number more, which committed
    pub listed_more : n < most_searched → committed log t ≡ true → Listed log (t + 1) (n + 1) (set list n t)
    listed_more room c = record {
      size = length-set list n t ∙ listed.size;
      each = λ i h. each_one i h (decide (i is n));
      rising = λ i j k h. rises i j k h (decide (j is n));
      every_one = λ u q h. found u q h (decide (u is t));
      counted = add-one n ∙ ap suc listed.counted ∙ sym (count_yes t (committed log) c);
    }
      where
        last : get_or (set list n t) n 0 ≡ t
        last = get_or-set_same list n t 0 (omega (arith, listed.size))

        before : (i : ℕ) → (i ≡ n → ⊥) → get_or (set list n t) i 0 ≡ get_or list i 0
        before i e = get_or-set_other list n i t 0 e

        each_one : (i : ℕ) → i < n + 1 → ((i is n) ≡ true) ⊎ ((i is n) ≡ false) → (committed log (get_or (set list n t) i 0) ≡ true) × (get_or (set list n t) i 0 < t + 1)
        each_one i h (inl e) = let z : i ≡ n = is→ e in rw (z, last) (c, omega arith)
        each_one i h (inr e) = let z : i ≡ n → ⊥ = isnt→ e in let r = listed.each i (omega arith) in rw (before i z) (r.0, omega (arith, r.1))

        rises : (i j : ℕ) → i < j → j < n + 1 → ((j is n) ≡ true) ⊎ ((j is n) ≡ false) → get_or (set list n t) i 0 < get_or (set list n t) j 0
        rises i j k h (inl e) = let z : j ≡ n = is→ e in rw (z, last, before i (λ (q : i ≡ n). omega arith)) (listed.each i (omega arith)).1
        rises i j k h (inr e) = let z : j ≡ n → ⊥ = isnt→ e in rw (before j z, before i (λ (q : i ≡ n). omega arith)) (listed.rising i j k (omega arith))

        found : (u : ℕ) → committed log u ≡ true → u < t + 1 → ((u is t) ≡ true) ⊎ ((u is t) ≡ false) → (i : ℕ) × (i < n + 1) × (get_or (set list n t) i 0 ≡ u)
        found u q h (inl e) = (n, omega arith, last ∙ sym (is→ e))
        found u q h (inr e) =
            let z : u ≡ t → ⊥ = isnt→ e in
            let r = listed.every_one u q (omega arith) in
            let i : ℕ = r.0 in
            let l : i < n = r.1 in
            (i, omega arith, before i (λ (y : i ≡ n). omega arith) ∙ r.2)

    -- one number more, which did not
    pub listed_same : committed log t ≡ false → Listed log (t + 1) n list
    listed_same c = record {
      size = listed.size;
      each = λ i h. let r = listed.each i h in (r.0, omega (arith, r.1));
      rising = listed.rising;
      every_one = λ (u : ℕ) q (h : u < t + 1). listed.every_one u q (lower u q h);
      counted = listed.counted ∙ sym (count_no t (committed log) c);
    }
      where
        lower : (u : ℕ) → committed log u ≡ true → u < t + 1 → u < t
        lower u q h = let z : u ≡ t → ⊥ = λ (e : u ≡ t). not_both (rw e at q) c in omega arith

    -- all numbers
    pub all_listed : t ≡ suc transactions → CommittedList log list n
    all_listed e = record {
      each = λ i h. (listed.each i h).0;
      rising = listed.rising;
      every_one = λ u q. listed.every_one u q (omega (arith, (committed_range log well u q).1));
      counted = rw e at listed.counted;
    }
