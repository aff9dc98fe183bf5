-- Who committed before whom: the table, filled from the first step on, and the last commit before a step.
use mathlib.Core.Path.{◌≡◌, refl, sym, ◌∙◌}
use mathlib.Core.Bool.{true, false}
use mathlib.Core.Logic.{◌⊎◌, inl, inr}
use mathlib.Core.List.{List}
use Prim.Native.Nat.{ℕ, zero, suc, ◌+◌, ◌≤◌, ◌<◌}
use native.Mathlib.Omega.{arith}
use native.Mathlib.Numerals.{add-one}
use lib.ListN.{get_or, set, replicate, length-set, length-replicate, get_or-replicate}
use lib.Seq.{get_or-set_same, get_or-set_other}
use Rattle.words.specs.Tests.{◌is◌, some}
use Rattle.words.proofs.Truth.{decide, not_both, →and, is→, →is, isnt→, →isnt, →some, provided_true, provided_false}
use Rattle.verdict.specs.Limits.{transactions}
use Rattle.verdict.specs.Log.{kind, tx}
use Rattle.verdict.specs.Inner.Marks.{does}
use Rattle.verdict.specs.Inner.Checking.{committer, CommitOrder}

module _ (log : List ℕ) where
  pub committer_commit : (j : ℕ) → kind log j ≡ 4 → committer log (suc j) ≡ tx log j
  unfolding committer
  committer_commit j k = provided_true _ _ (→is k)

  pub committer_other : (j : ℕ) → (kind log j ≡ 4 → ⊥) → committer log (suc j) ≡ committer log j
  unfolding committer
  committer_other j k = provided_false _ _ (→isnt k)

  -- THE TABLE
  pub order_none : (m : ℕ) → m ≡ suc transactions → CommitOrder log 0 (replicate m 0)
  unfolding committer
  order_none m e = record {
    size = length-replicate m 0 ∙ e;
    last = get_or-replicate {A = ℕ} m 0 0 0 (omega arith);
    before = λ (j : ℕ) (h : j < 0) k. absurd (omega arith);
    named = λ (j : ℕ) (h : j < 0) k. absurd (omega arith);
  }

  module _ (i : ℕ) {table : List ℕ} (known : CommitOrder log i table) where
    earlier : (j : ℕ) → j < i + 1 → (j ≡ i → ⊥) → j < i
    earlier j h n = omega arith

    pub order_skip : (kind log i ≡ 4 → ⊥) → CommitOrder log (i + 1) table
    order_skip k = record {
      size = known.size;
      last = known.last ∙ sym (rw (add-one i) (committer_other i k));
      before = λ j h l. known.before j (earlier j h (λ e. k (rw e at l))) l;
      named = λ j h l. known.named j (earlier j h (λ e. k (rw e at l))) l;
    }

    -- the first commit of its transaction
    pub order_more : {u : ℕ} → u ≡ tx log i → kind log i ≡ 4 → 1 ≤ tx log i → tx log i ≤ transactions → some i (does log 4 (tx log i)) ≡ false → CommitOrder log (i + 1) (set (set table u (get_or table 0 0)) 0 u)
    unfolding does
    order_more {u} same k low high new = rw same (record {
      size = length-set inner 0 t ∙ length-set table t (get_or table 0 0) ∙ known.size;
      last = get_or-set_same inner 0 t 0 (omega (arith, known.size, length-set table t (get_or table 0 0))) ∙ sym (rw (add-one i) (committer_commit i k));
      before = λ j h l. go j h l (decide (j is i));
      named = λ j h l. name j h l (decide (j is i));
    })
      where
        t : ℕ
        t = tx log i

        inner : List ℕ
        inner = set table t (get_or table 0 0)

        name : (j : ℕ) → j < i + 1 → kind log j ≡ 4 → ((j is i) ≡ true) ⊎ ((j is i) ≡ false) → 1 ≤ tx log j
        name j h l (inl q) = let e : j ≡ i = is→ q in rw e low
        name j h l (inr q) = known.named j (earlier j h (isnt→ q)) l

        go : (j : ℕ) → j < i + 1 → kind log j ≡ 4 → ((j is i) ≡ true) ⊎ ((j is i) ≡ false) → get_or (set inner 0 t) (tx log j) 0 ≡ committer log j
        go j h l (inl q) =
            let e : j ≡ i = is→ q in
            rw e (get_or-set_other inner 0 t t 0 (λ (z : t ≡ 0). omega (arith, z, low)) ∙ get_or-set_same table t (get_or table 0 0) 0 (omega (arith, known.size, high)) ∙ known.last)
        go j h l (inr q) =
            let b : j < i = earlier j h (isnt→ q) in
            get_or-set_other inner 0 (tx log j) t 0 (λ (z : tx log j ≡ 0). omega (arith, z, known.named j b l))
            ∙ get_or-set_other table t (tx log j) (get_or table 0 0) 0 (λ (z : tx log j ≡ t). not_both (→some _ j b (→and (→is l) (→is z))) new)
            ∙ known.before j b l

  -- THE LAST COMMIT before a step
  pub record LastCommit (j : ℕ) : Type 0 where
    pub step : ℕ
    pub below : step < j
    pub commits : kind log step ≡ 4
    pub by : tx log step ≡ committer log j
    pub none_since : (i : ℕ) → step < i → i < j → kind log i ≡ 4 → ⊥

  pub last_commit : (j : ℕ) → (committer log j ≡ 0 → ⊥) → LastCommit j
  unfolding committer
  last_commit zero n = absurd (n refl)
  last_commit (suc j) n = go (decide (kind log j is 4)) (last_commit j)
    where
      go : ((kind log j is 4) ≡ true) ⊎ ((kind log j is 4) ≡ false) → ((committer log j ≡ 0 → ⊥) → LastCommit j) → LastCommit (suc j)
      go (inl q) r = record { step = j; below = omega arith; commits = is→ q; by = sym (committer_commit j (is→ q)); none_since = λ (i : ℕ) (h : j < i) (l : i < suc j) k. omega arith }
      go (inr q) r =
          let e : committer log (suc j) ≡ committer log j = committer_other j (isnt→ q) in
          let c = r (λ z. n (e ∙ z)) in
          record { step = c.step; below = omega (arith, c.below); commits = c.commits; by = c.by ∙ sym e; none_since = λ i h l k. since c i h l k (decide (i is j)) }
        where
          since : (c : LastCommit j) (i : ℕ) → c.step < i → i < suc j → kind log i ≡ 4 → ((i is j) ≡ true) ⊎ ((i is j) ≡ false) → ⊥
          since c i h l k (inl z) = let w : i ≡ j = is→ z in isnt→ q (rw w at k)
          since c i h l k (inr z) = let w : i ≡ j → ⊥ = isnt→ z in c.none_since i h (omega arith) k

  -- nobody has committed
  pub none_committed : (j : ℕ) → committer log j ≡ 0 → ((i : ℕ) → i < j → kind log i ≡ 4 → 1 ≤ tx log i) → (i : ℕ) → i < j → kind log i ≡ 4 → ⊥
  none_committed zero e named i h k = omega arith
  none_committed (suc j) e named i h k = go (decide (kind log j is 4)) (decide (i is j)) (λ z. none_committed j z (λ (a : ℕ) (b : a < j). named a (omega arith)))
    where
      go : ((kind log j is 4) ≡ true) ⊎ ((kind log j is 4) ≡ false) → ((i is j) ≡ true) ⊎ ((i is j) ≡ false) → (committer log j ≡ 0 → (a : ℕ) → a < j → kind log a ≡ 4 → ⊥) → ⊥
      go (inl q) z r = omega (arith, sym (committer_commit j (is→ q)) ∙ e, named j (omega arith) (is→ q))
      go (inr q) (inl z) r = let w : i ≡ j = is→ z in isnt→ q (rw w at k)
      go (inr q) (inr z) r = let w : i ≡ j → ⊥ = isnt→ z in r (sym (committer_other j (isnt→ q)) ∙ e) i (omega arith) k
