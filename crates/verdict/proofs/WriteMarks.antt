-- The tables of marks: which versions are there before a step, filled from the first step on, and what is written from a step on, filled from the last step back.
use mathlib.Core.Path.{◌≡◌, refl, sym, ap, ◌∙◌}
use mathlib.Core.Bool.{Bool, true, false}
use mathlib.Core.Logic.{◌⊎◌, inl, inr, ⊎_elim}
use mathlib.Core.List.{List}
use Prim.Native.Nat.{ℕ, suc, ◌+◌, ◌≤◌, ◌<◌}
use native.Mathlib.Omega.{arith}
use lib.Pow.{pow_pos}
use lib.ListN.{length, get_or, set, replicate, length-set, length-replicate, get_or-replicate}
use lib.Seq.{get_or-set_same, get_or-set_other}
use Rattle.words.specs.Tests.{◌is◌, ◌below◌, ◌upto◌, ◌and◌, ◌or◌, some}
use Rattle.words.proofs.Truth.{decide, same_test, and→, →and, and_no_left, and_no_right, or→, →or_left, →or_right, or_no, or_false, →fails, is→, →is, isnt→, →isnt, upto→, →upto, →not_upto, some→, →some, →none, some_next}
use Rattle.bits.specs.Word.{marked, more}
use Rattle.bits.proofs.Marks.{no_mark, mark_not, marked_more}
use Rattle.verdict.specs.Limits.{transactions, objects}
use Rattle.verdict.specs.Log.{steps, kind, tx, obj, writes, wrote, writer}
use Rattle.verdict.specs.Clean.{writes_later}
use Rattle.verdict.specs.Inner.WriteTable.{Versions, WriteTable, WritesFrom}

-- a table of zeros has no mark
none_marked : (n t x : ℕ) → t < n → marked (get_or (replicate n 0) t 0) x ≡ false
none_marked n t x h = ap (λ (m : ℕ). marked m x) (get_or-replicate n t 0 0 h) ∙ no_mark x

-- THE MARKS OF ONE STEP MORE: what step i adds to those of a test of t and x
module _ (log : List ℕ) (i : ℕ) (table : List ℕ) {p : ℕ → ℕ → Bool} (known : (t x : ℕ) → t ≤ transactions → x < objects → marked (get_or table t 0) x ≡ p t x) where
  none_added : (kind log i ≡ 3 → ⊥) → (t x : ℕ) → t ≤ transactions → x < objects → marked (get_or table t 0) x ≡ (p t x or writes log t x i)
  unfolding writes
  none_added k t x h l = known t x h l ∙ sym (or_no _ (and_no_left _ (and_no_left _ (→isnt k))))

  one_added : kind log i ≡ 3 → tx log i < length table
      → (t x : ℕ) → t ≤ transactions → x < objects → marked (get_or (set table (tx log i) (more (get_or table (tx log i) 0) (obj log i))) t 0) x ≡ (p t x or writes log t x i)
  unfolding writes
  one_added k size t x h l = go (decide (t is tx log i)) (decide (x is obj log i))
    where
      go : ((t is tx log i) ≡ true) ⊎ ((t is tx log i) ≡ false) → ((x is obj log i) ≡ true) ⊎ ((x is obj log i) ≡ false)
          → marked (get_or (set table (tx log i) (more (get_or table (tx log i) 0) (obj log i))) t 0) x ≡ (p t x or writes log t x i)
      go (inl a) (inl b) =
          let e : t ≡ tx log i = is→ a in
          rw (e, get_or-set_same table (tx log i) (more (get_or table (tx log i) 0) (obj log i)) 0 size)
          (marked_more _ _ x ∙ →or_left _ b ∙ sym (→or_right _ (→and (→and (→is k) (→is refl)) (→is (sym (is→ b))))))
      go (inl a) (inr b) =
          let e : t ≡ tx log i = is→ a in
          rw (e, get_or-set_same table (tx log i) (more (get_or table (tx log i) 0) (obj log i)) 0 size)
          (marked_more _ _ x ∙ or_false b ∙ known (tx log i) x (rw e at h) l ∙ sym (or_no _ (and_no_right _ (→isnt (λ q. isnt→ b (sym q))))))
      go (inr a) b =
          rw (get_or-set_other table (tx log i) t (more (get_or table (tx log i) 0) (obj log i)) 0 (isnt→ a))
          (known t x h l ∙ sym (or_no _ (and_no_left _ (and_no_right _ (→isnt (λ q. isnt→ a (sym q)))))))

-- THE VERSIONS BEFORE A STEP, from the first step on
-- every object is marked
pub every_object : (x : ℕ) → x < objects → marked 18446744073709551615 x ≡ true
every_object x h = mark_not 64 0 x (pow_pos 64) h ∙ →fails (no_mark x)

-- at first there are those of the store
pub none_written : (log : List ℕ) (n : ℕ) → transactions < n → Versions log 0 (set (replicate n 0) 0 18446744073709551615)
unfolding wrote some
none_written log n h = record { mark = λ t x k l. go t x k l (decide (t is 0)) }
  where
    go : (t x : ℕ) → t ≤ transactions → x < objects → ((t is 0) ≡ true) ⊎ ((t is 0) ≡ false) → marked (get_or (set (replicate n 0) 0 18446744073709551615) t 0) x ≡ (t is 0 or false)
    go t x k l (inl q) =
        let e : t ≡ 0 = is→ q in
        rw (e, get_or-set_same {A = ℕ} (replicate n 0) 0 18446744073709551615 0 (omega (arith, length-replicate {A = ℕ} n 0))) (every_object x l ∙ sym (→or_left false (→is {m = 0} {n = 0} refl)))
    go t x k l (inr q) = rw (get_or-set_other {A = ℕ} (replicate n 0) 0 t 18446744073709551615 0 (isnt→ q)) (none_marked n t x (omega arith) ∙ sym (or_false q))

or_more : (a b c : Bool) → ((a or b) or c) ≡ (a or (b or c))
unfolding ◌or◌
or_more true b c = refl
or_more false b c = refl

module _ (log : List ℕ) (i : ℕ) {table : List ℕ} (w : Versions log i table) where
  next : (t x : ℕ) → ((t is 0 or wrote log i t x) or writes log t x i) ≡ (t is 0 or wrote log (i + 1) t x)
  unfolding wrote
  next t x = or_more (t is 0) _ _ ∙ ap (λ (b : Bool). t is 0 or b) (sym (some_next i (writes log t x)))

  pub write_skip : (kind log i ≡ 3 → ⊥) → Versions log (i + 1) table
  write_skip k = record { mark = λ t x h l. none_added log i table w.mark k t x h l ∙ next t x }

  pub write_more : kind log i ≡ 3 → tx log i < length table → Versions log (i + 1) (set table (tx log i) (more (get_or table (tx log i) 0) (obj log i)))
  write_more k size = record { mark = λ t x h l. one_added log i table w.mark k size t x h l ∙ next t x }

-- behind the last step, without those of the store
pub all_written : (log : List ℕ) {table : List ℕ} → 0 < length table → ((x : ℕ) → writer log x 0 ≡ false) → Versions log (steps log) table → WriteTable log (set table 0 0)
unfolding wrote writer
all_written log {table} size nobody w = record { mark = λ t x h l. go t x h l (decide (t is 0)) }
  where
    go : (t x : ℕ) → t ≤ transactions → x < objects → ((t is 0) ≡ true) ⊎ ((t is 0) ≡ false) → marked (get_or (set table 0 0) t 0) x ≡ writer log x t
    go t x h l (inl q) = let e : t ≡ 0 = is→ q in rw (e, get_or-set_same table 0 0 0 size) (no_mark x ∙ sym (nobody x))
    go t x h l (inr q) = rw (get_or-set_other table 0 t 0 0 (isnt→ q)) (w.mark t x h l ∙ or_false q)

-- WHAT IS WRITTEN FROM A STEP ON, from the last step back
-- some number from i on passes exactly when a later one does, or i
some_from : (n i : ℕ) (p : ℕ → Bool) → i < n → some n (λ j. i upto j and p j) ≡ (some n (λ j. suc i upto j and p j) or p i)
some_from n i p l =
    same_test (λ h. let r = some→ h in let a = and→ r.2 in split r.0 r.1 (upto→ a.0) a.1 (decide (r.0 is i)))
    (λ h. ⊎_elim further (λ q. →some _ i l (→and (→upto (omega arith)) q)) (or→ h))
  where
    split : (j : ℕ) → j < n → i ≤ j → p j ≡ true → ((j is i) ≡ true) ⊎ ((j is i) ≡ false) → (some n (λ j. suc i upto j and p j) or p i) ≡ true
    split j h k q (inl e) = →or_right _ (rw (is→ {m = j} {n = i} e) at q)
    split j h k q (inr e) = let z : j ≡ i → ⊥ = isnt→ e in →or_left _ (→some _ j h (→and (→upto (omega arith)) q))

    further : some n (λ j. suc i upto j and p j) ≡ true → some n (λ j. i upto j and p j) ≡ true
    further h = let r = some→ h in let a = and→ r.2 in let z : suc i ≤ r.0 = upto→ a.0 in →some _ r.0 r.1 (→and (→upto (omega arith)) a.1)

module _ (log : List ℕ) where
  pub none_later : (m n : ℕ) → m ≡ suc transactions → n ≡ steps log → WritesFrom log n (replicate m 0)
  none_later m n e f =
      record {
        size = length-replicate m 0 ∙ e;
        mark = λ (t x : ℕ) (h : t ≤ transactions) (l : x < objects).
            none_marked m t x (omega arith) ∙ sym (→none (λ j. n upto j and writes log t x j) (λ (j : ℕ) (k : j < steps log). and_no_left _ (→not_upto (omega arith))));
      }

  module _ (i : ℕ) {table : List ℕ} (w : WritesFrom log (suc i) table) where
    pub later_skip : i < steps log → (kind log i ≡ 3 → ⊥) → WritesFrom log i table
    later_skip s k = record { size = w.size; mark = λ t x h l. none_added log i table w.mark k t x h l ∙ sym (some_from (steps log) i (writes log t x) s) }

    pub later_more : i < steps log → kind log i ≡ 3 → tx log i ≤ transactions → WritesFrom log i (set table (tx log i) (more (get_or table (tx log i) 0) (obj log i)))
    later_more s k m =
        record {
          size = length-set table (tx log i) _ ∙ w.size;
          mark = λ t x h l. one_added log i table w.mark k (omega (arith, w.size)) t x h l ∙ sym (some_from (steps log) i (writes log t x) s);
        }

    -- whether t writes x later than step i, by what was read of the table
    pub by_later : {t u x y : ℕ} {r : Bool} → t ≤ transactions → x < objects → u ≡ t → y ≡ x → r ≡ marked (get_or table u 0) y → r ≡ writes_later log i t x
    unfolding writes_later ◌below◌ ◌upto◌
    by_later {t} {x} h k a b e = rw (a, b) at e ∙ w.mark t x h k
