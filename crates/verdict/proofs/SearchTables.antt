-- The tables of the exact search, each filled by one walk over the steps.
use mathlib.Core.Path.{◌≡◌, refl, sym, ◌∙◌}
use mathlib.Core.Bool.{true, false}
use mathlib.Core.Logic.{◌⊎◌, inl, inr}
use mathlib.Core.List.{List}
use Prim.Native.Nat.{ℕ, suc, ◌+◌, ◌*◌, ◌≤◌, ◌<◌}
use native.Mathlib.Omega.{arith}
use lib.ListN.{length, get_or, set, replicate, length-set, length-replicate, get_or-replicate}
use lib.Seq.{get_or-set_same, get_or-set_other}
use Rattle.words.specs.Tests.{◌is◌}
use Rattle.words.proofs.Truth.{decide, is→, isnt→}
use Rattle.verdict.specs.Limits.{transactions, objects}
use Rattle.verdict.specs.Log.{steps, tx, obj, src}
use Rattle.verdict.specs.Clean.{judged_other}
use Rattle.verdict.specs.Inner.Placing.{needing, need, Needs}
use Rattle.verdict.proofs.Loosely.{need_more, need_same, needs_judged, needs_none_unjudged, needs_none_other, needs_none_elsewhere}

-- the table has what the first i steps need
pub record Needed (log : List ℕ) (i : ℕ) (table : List ℕ) : Type 0 where
  pub size : length table ≡ suc transactions * objects
  pub entry : (t x : ℕ) → t ≤ transactions → x < objects → get_or table (t * objects + x) 0 ≡ need log t x i

pub needed_none : (log : List ℕ) (n : ℕ) → n ≡ suc transactions * objects → Needed log 0 (replicate n 0)
unfolding need
needed_none log n e = record {
  size = length-replicate n 0 ∙ e;
  entry = λ (t x : ℕ) (h : t ≤ transactions) (k : x < objects). get_or-replicate n (t * objects + x) 0 0 (omega arith);
}

module _ (log : List ℕ) (i : ℕ) {table : List ℕ} (known : Needed log i table) where
  -- one step more, which is no judged read from another
  pub needed_same : judged_other log i ≡ false → Needed log (i + 1) table
  needed_same j = record {
    size = known.size;
    entry = λ t x h k. known.entry t x h k ∙ sym (need_same log t x i (needs_none_unjudged log t x i j));
  }

  -- one step more, which is one
  pub needed_more : judged_other log i ≡ true → tx log i ≤ transactions → obj log i < objects
      → let k = tx log i * objects + obj log i in Needed log (i + 1) (set table k (needing (get_or table k 0) (src log i)))
  needed_more j p q = record {
    size = length-set table _ _ ∙ known.size;
    entry = λ t x h k. go t x h k (decide (tx log i is t)) (decide (obj log i is x));
  }
    where
      at_it : ℕ
      at_it = tx log i * objects + obj log i

      apart : (t x : ℕ) → x < objects → (t * objects + x ≡ at_it) → (tx log i ≡ t) × (obj log i ≡ x)
      apart t x h e = (omega arith, omega arith)

      go : (t x : ℕ) → t ≤ transactions → x < objects → ((tx log i is t) ≡ true) ⊎ ((tx log i is t) ≡ false) → ((obj log i is x) ≡ true) ⊎ ((obj log i is x) ≡ false)
          → get_or (set table at_it (needing (get_or table at_it 0) (src log i))) (t * objects + x) 0 ≡ need log t x (i + 1)
      go t x h k (inl a) (inl b) =
          let e : tx log i ≡ t = is→ a in
          let f : obj log i ≡ x = is→ b in
          rw (← e, ← f)
          (get_or-set_same table at_it _ 0 (omega (arith, known.size)) ∙ rw (known.entry (tx log i) (obj log i) p q) (sym (need_more log (tx log i) (obj log i) i (needs_judged log (tx log i) (obj log i) i j refl refl))))
      go t x h k (inl a) (inr b) =
          get_or-set_other table at_it (t * objects + x) _ 0 (λ e. isnt→ b (apart t x k e).1) ∙ known.entry t x h k ∙ sym (need_same log t x i (needs_none_elsewhere log t x i (isnt→ b)))
      go t x h k (inr a) b =
          get_or-set_other table at_it (t * objects + x) _ 0 (λ e. isnt→ a (apart t x k e).0) ∙ known.entry t x h k ∙ sym (need_same log t x i (needs_none_other log t x i (isnt→ a)))

-- after the last step
pub needed_all : (log : List ℕ) {table : List ℕ} → Needed log (steps log) table → Needs log table
needed_all log known = record { entry = λ t x c h k. known.entry t x h k }
