-- The log with some transactions taken back, step by step: every number is as it was but the kinds of their commits.
use mathlib.Core.Path.{◌≡◌, refl, sym, ap, ◌∙◌}
use mathlib.Core.Bool.{Bool, true, false}
use mathlib.Core.Logic.{◌⊎◌, inl, inr, ⊎_elim}
use mathlib.Core.List.{List, [], ◌∷◌, ◌++◌}
use Prim.Native.Nat.{ℕ, zero, suc, ◌+◌, ◌*◌, ◌%◌, ◌≤◌, ◌<◌}
use native.Mathlib.Omega.{arith}
use native.Mathlib.Nat.{not-suc-le-zero}
use native.Mathlib.Numerals.{add-one}
use lib.ListN.{length, get_or, length-append, get_or-append}
use lib.Seq.{get_or-append-add}
use Rattle.words.specs.Tests.{◌is◌, ◌below◌, ◌upto◌, ◌and◌, ◌or◌, fails, provided◌then◌else◌, lowest}
use Rattle.verdict.specs.Limits.{transactions}
use Rattle.verdict.specs.Log.{steps, kind, tx, obj, src, begins, reads, writes, commits, aborts, begun, ended, wrote, committed, writer, write_one_object, commit_step}
use Rattle.verdict.specs.Refusal.{object_allowed, source_allowed, range_refusal, life_refusal, source_refusal, step_refusal, open_refusal, log_refusal}
use Rattle.verdict.specs.Answers.{Passed}
use Rattle.words.proofs.Truth.{decide, not_both, to_false, same_test, and→, →and, or→, →or_left, →or_right, and_no_left, fails→, →fails, is→, →is, →isnt, below→, not_below→, provided_true, provided_false, some→, →some, some_same, lowest_is, lowest_at}
use Rattle.verdict.proofs.Refused.{tried_same}
use Rattle.verdict.proofs.WellFormed.{whole_steps}
use Rattle.plan.specs.TakenBack.{kind_after, steps_after, taken_back}

-- the numbers of each step of the changed log
pub record Changed (back : ℕ → Bool) (log log' : List ℕ) : Type 0 where
  pub whole : length log' ≡ 4 * steps log
  pub size : steps log' ≡ steps log
  pub kinds : (i : ℕ) → i < steps log → kind log' i ≡ kind_after back log i
  pub txs : (i : ℕ) → i < steps log → tx log' i ≡ tx log i
  pub objs : (i : ℕ) → i < steps log → obj log' i ≡ obj log i
  pub srcs : (i : ℕ) → i < steps log → src log' i ≡ src log i

module _ (back : ℕ → Bool) (log : List ℕ) where
  -- the four numbers of step i then
  abbrev step : ℕ → List ℕ
  step i = kind_after back log i ∷ tx log i ∷ obj log i ∷ src log i ∷ []

  after_length : (n : ℕ) → length (steps_after back log n) ≡ 4 * n
  unfolding steps_after
  after_length zero = refl
  after_length (suc n) = let e : length (steps_after back log n) ≡ 4 * n = after_length n in length-append (steps_after back log n) (kind_after back log n ∷ tx log n ∷ obj log n ∷ src log n ∷ []) ∙ omega arith

  -- one step more
  pub after_more : (i : ℕ) → steps_after back log (i + 1) ≡ steps_after back log i ++ step i
  unfolding steps_after
  after_more i = ap (steps_after back log) (add-one i)

  number_at : (n i j : ℕ) → i < n → j < 4 → get_or (steps_after back log n) (4 * i + j) 0 ≡ get_or (step i) j 0
  unfolding steps_after
  number_at zero i j h k = absurd (not-suc-le-zero h)
  number_at (suc n) i j h k = go (decide (i below n)) (λ l. number_at n i j l k)
    where
      l : List ℕ
      l = steps_after back log n

      go : ((i below n) ≡ true) ⊎ ((i below n) ≡ false) → (i < n → get_or l (4 * i + j) 0 ≡ get_or (step i) j 0) → get_or (l ++ step n) (4 * i + j) 0 ≡ get_or (step i) j 0
      go (inl p) rec =
          let q : i < n = below→ p in
          let e : length l ≡ 4 * n = after_length n in
          get_or-append l (step n) 0 (4 * i + j) (omega arith) ∙ rec q
      go (inr p) rec =
          let q : i ≡ n = omega (arith, not_below→ p) in
          let e : length l ≡ 4 * n = after_length n in
          let f : 4 * i + j ≡ length l + j = omega arith in
          rw f (get_or-append-add l (step n) j 0 ∙ ap (λ (m : ℕ). get_or (step m) j 0) (sym q))

  pub changed : Changed back log (taken_back back log)
  unfolding taken_back steps kind tx obj src
  changed =
      let e : length (steps_after back log (steps log)) ≡ 4 * steps log = after_length (steps log) in
      record {
        whole = e;
        size = omega arith;
        kinds = λ (i : ℕ) (h : i < steps log). let f : 4 * i + 0 ≡ 4 * i = omega arith in rw f at (number_at (steps log) i 0 h (omega arith));
        txs = λ (i : ℕ) (h : i < steps log). number_at (steps log) i 1 h (omega arith);
        objs = λ (i : ℕ) (h : i < steps log). number_at (steps log) i 2 h (omega arith);
        srcs = λ (i : ℕ) (h : i < steps log). number_at (steps log) i 3 h (omega arith);
      }

-- a commit of one that is taken back, and any other step
module _ (back : ℕ → Bool) (log : List ℕ) (i : ℕ) where
  pub kind_turned : kind log i ≡ 4 → back (tx log i) ≡ true → kind_after back log i ≡ 5
  unfolding kind_after
  kind_turned k b = provided_true 5 (kind log i) (→and (→is k) b)

  pub kind_kept : (kind log i is 4 and back (tx log i)) ≡ false → kind_after back log i ≡ kind log i
  unfolding kind_after
  kind_kept h = provided_false 5 (kind log i) h

-- a number of kind 4 is read as one of kind 5 is
same_ranges : (i t x s : ℕ) → range_refusal i 5 t x s ≡ range_refusal i 4 t x s
unfolding range_refusal object_allowed source_allowed ◌upto◌ ◌is◌ ◌and◌ ◌or◌ fails provided◌then◌else◌
same_ranges i t x s = refl

split : (a b d : Bool) → ((a and fails d) or (b or (a and d))) ≡ (a or b)
unfolding ◌and◌ ◌or◌ fails
split true true true = refl
split true true false = refl
split true false true = refl
split true false false = refl
split false true d = refl
split false false d = refl

module _ {back : ℕ → Bool} {log log' : List ℕ} (c : Changed back log log') where
  -- WHAT A STEP IS
  module _ (i : ℕ) (h : i < steps log) where
    -- it is the same step, or a commit of one that is taken back, which is an abort now
    pub turned : (kind log' i ≡ kind log i) ⊎ ((kind log i ≡ 4) × (back (tx log i) ≡ true) × (kind log' i ≡ 5))
    turned = go (decide (kind log i is 4 and back (tx log i)))
      where
        go : ((kind log i is 4 and back (tx log i)) ≡ true) ⊎ ((kind log i is 4 and back (tx log i)) ≡ false) → (kind log' i ≡ kind log i) ⊎ ((kind log i ≡ 4) × (back (tx log i) ≡ true) × (kind log' i ≡ 5))
        go (inl k) = let r = and→ k in inr (is→ r.0, r.1, c.kinds i h ∙ kind_turned back log i (is→ r.0) r.1)
        go (inr k) = inl (c.kinds i h ∙ kind_kept back log i k)

    -- kinds other than commit and abort stay
    pub kind_same : (k : ℕ) → (k ≡ 4 → ⊥) → (k ≡ 5 → ⊥) → (kind log' i is k) ≡ (kind log i is k)
    kind_same k a b =
        ⊎_elim (λ (e : kind log' i ≡ kind log i). ap (λ (m : ℕ). m is k) e)
        (λ (r : (kind log i ≡ 4) × (back (tx log i) ≡ true) × (kind log' i ≡ 5)). →isnt (λ (z : kind log' i ≡ k). b (sym z ∙ r.2)) ∙ sym (→isnt (λ (z : kind log i ≡ k). a (sym z ∙ r.0)))) turned

    pub begins_same : (t : ℕ) → begins log' t i ≡ begins log t i
    unfolding begins
    begins_same t = rw (kind_same 1 (λ (z : 1 ≡ 4). omega arith) (λ (z : 1 ≡ 5). omega arith), c.txs i h) refl

    pub reads_same : reads log' i ≡ reads log i
    unfolding reads
    reads_same = kind_same 2 (λ (z : 2 ≡ 4). omega arith) (λ (z : 2 ≡ 5). omega arith)

    pub writes_same : (t x : ℕ) → writes log' t x i ≡ writes log t x i
    unfolding writes
    writes_same t x = rw (kind_same 3 (λ (z : 3 ≡ 4). omega arith) (λ (z : 3 ≡ 5). omega arith), c.txs i h, c.objs i h) refl

    -- who is taken back commits no more
    pub commits_after : (t : ℕ) → commits log' t i ≡ (commits log t i and fails (back t))
    unfolding commits
    commits_after t = go turned
      where
        go : (kind log' i ≡ kind log i) ⊎ ((kind log i ≡ 4) × (back (tx log i) ≡ true) × (kind log' i ≡ 5)) → (kind log' i is 4 and tx log' i is t) ≡ (kind log i is 4 and tx log i is t and fails (back t))
        go (inr r) =
            and_no_left _ (→isnt (λ (z : kind log' i ≡ 4). let y : 5 ≡ 4 = sym r.2 ∙ z in omega arith))
            ∙ sym (to_false _ (λ (k : (kind log i is 4 and tx log i is t and fails (back t)) ≡ true). let q = and→ k in let n : tx log i ≡ t = is→ (and→ q.0).1 in not_both (rw n at r.1) (fails→ q.1)))
        go (inl e) = rw (e, c.txs i h) (sym (same_test (λ k. (and→ k).0) (λ k. →and k (→fails (to_false (back t) (λ b. taken (and→ k).0 (and→ k).1 b))))))
          where
            taken : (kind log i is 4) ≡ true → (tx log i is t) ≡ true → back t ≡ true → ⊥
            taken k n b =
                let z : kind log' i ≡ 5 = c.kinds i h ∙ kind_turned back log i (is→ k) (rw (is→ {m = tx log i} {n = t} n) b) in
                let y : kind log' i ≡ 4 = e ∙ is→ k in
                omega arith

    pub aborts_after : (t : ℕ) → aborts log' t i ≡ (aborts log t i or (commits log t i and back t))
    unfolding aborts commits
    aborts_after t = go turned
      where
        go : (kind log' i ≡ kind log i) ⊎ ((kind log i ≡ 4) × (back (tx log i) ≡ true) × (kind log' i ≡ 5))
            → (kind log' i is 5 and tx log' i is t) ≡ (kind log i is 5 and tx log i is t or (kind log i is 4 and tx log i is t and back t))
        go (inl e) =
            rw (e, c.txs i h)
            (same_test (λ k. →or_left _ k)
            (λ k. ⊎_elim (λ l. l) (λ l. let q = and→ l in let p = and→ q.0 in
            let z : kind log' i ≡ 5 = c.kinds i h ∙ kind_turned back log i (is→ p.0) (rw (is→ {m = tx log i} {n = t} p.1) q.1) in
            let y : kind log' i ≡ 4 = e ∙ is→ p.0 in
            absurd (omega arith)) (or→ k)))
        go (inr r) =
            rw (r.2, c.txs i h, r.0)
            (same_test (λ k. →or_right _ (→and (→and (→is refl) (and→ k).1) (rw (is→ {m = tx log i} {n = t} (and→ k).1) at r.1)))
            (λ k. →and (→is refl) (⊎_elim (λ l. (and→ l).1) (λ l. (and→ (and→ l).0).1) (or→ k))))

    -- who ends, ends at the same step
    pub ends_same : (t : ℕ) → (commits log' t i or aborts log' t i) ≡ (commits log t i or aborts log t i)
    ends_same t = rw (commits_after t, aborts_after t) (split (commits log t i) (aborts log t i) (back t))

  -- BEFORE A STEP
  module _ (i : ℕ) (h : i ≤ steps log) where
    pub begun_same : (t : ℕ) → begun log' i t ≡ begun log i t
    unfolding begun
    begun_same t = some_same i _ _ (λ (j : ℕ) (l : j < i). begins_same j (omega arith) t)

    pub ended_same : (t : ℕ) → ended log' i t ≡ ended log i t
    unfolding ended
    ended_same t = some_same i _ _ (λ (j : ℕ) (l : j < i). ends_same j (omega arith) t)

    pub wrote_same : (t x : ℕ) → wrote log' i t x ≡ wrote log i t x
    unfolding wrote
    wrote_same t x = some_same i _ _ (λ (j : ℕ) (l : j < i). writes_same j (omega arith) t x)

  -- IN THE WHOLE LOG
  pub writer_same : (x t : ℕ) → writer log' x t ≡ writer log x t
  unfolding writer
  writer_same x t = rw c.size (some_same (steps log) _ _ (λ (j : ℕ) (l : j < steps log). writes_same j l t x))

  pub shared_same : (a b : ℕ) → write_one_object log' a b ≡ write_one_object log a b
  unfolding write_one_object
  shared_same a b =
      rw c.size (some_same (steps log) _ _ (λ (j : ℕ) (l : j < steps log).
      rw (kind_same j l 3 (λ (z : 3 ≡ 4). omega arith) (λ (z : 3 ≡ 5). omega arith), c.txs j l, c.objs j l, writer_same (obj log j) b) refl))

  -- who committed and is not taken back
  pub committed_after : (t : ℕ) → committed log' t ≡ (committed log t and fails (back t))
  unfolding committed
  committed_after t =
      rw c.size
      (same_test (λ k. let r = some→ k in let q = and→ (sym (commits_after r.0 r.1 t) ∙ r.2) in →and (→some _ r.0 r.1 q.0) q.1)
      (λ k. let q = and→ k in let r = some→ q.0 in →some _ r.0 r.1 (commits_after r.0 r.1 t ∙ →and r.2 q.1)))

  pub still_committed : (t : ℕ) → committed log' t ≡ true → (committed log t ≡ true) × (back t ≡ false)
  still_committed t k = let q = and→ (sym (committed_after t) ∙ k) in (q.0, fails→ q.1)

  pub stays_committed : (t : ℕ) → committed log t ≡ true → back t ≡ false → committed log' t ≡ true
  stays_committed t k b = committed_after t ∙ →and k (→fails b)

  -- .. commits at the same step
  pub commit_same : (t : ℕ) → committed log' t ≡ true → commit_step log' t ≡ commit_step log t
  unfolding committed commit_step
  commit_same t k =
      let q = still_committed t k in
      let r = lowest_is (commits log t) q.0 in
      rw c.size
      (lowest_at (commits log' t) (lowest (steps log) (commits log t)) r.0 (commits_after _ r.0 t ∙ →and r.1 (→fails q.1))
      (λ (j : ℕ) (l : j < lowest (steps log) (commits log t)). commits_after j (omega (arith, r.0)) t ∙ and_no_left _ (r.2 j l)))

  -- IT IS WELL-FORMED WHERE THE LOG IS
  step_same : (i : ℕ) → i < steps log → step_refusal log' i ≡ step_refusal log i
  unfolding step_refusal life_refusal source_refusal
  step_same i h = go (turned i h)
    where
      go : (kind log' i ≡ kind log i) ⊎ ((kind log i ≡ 4) × (back (tx log i) ≡ true) × (kind log' i ≡ 5)) → step_refusal log' i ≡ step_refusal log i
      go (inl e) = rw (e, c.txs i h, c.objs i h, c.srcs i h, begun_same i (omega arith) (tx log i), ended_same i (omega arith) (tx log i), wrote_same i (omega arith) (src log i) (obj log i)) refl
      go (inr r) =
          rw (r.0, r.2, c.txs i h, c.objs i h, c.srcs i h, begun_same i (omega arith) (tx log i), ended_same i (omega arith) (tx log i), wrote_same i (omega arith) (src log i) (obj log i), same_ranges i (tx log i) (obj log i) (src log i)) (unfold ◌is◌ ◌and◌ fails in refl)

  open_same : (t : ℕ) → open_refusal log' t ≡ open_refusal log t
  unfolding open_refusal
  open_same t = rw (c.size, begun_same (steps log) (omega arith) t, ended_same (steps log) (omega arith) t) refl

  pub well_changed : log_refusal log ≡ Passed → log_refusal log' ≡ Passed
  unfolding log_refusal
  well_changed well =
      let a : length log ≡ 4 * steps log = whole_steps log well in
      let e : length log' % 4 ≡ length log % 4 = ap (λ (n : ℕ). n % 4) (c.whole ∙ sym a) in
      rw (e, c.size, tried_same (steps log) (step_refusal log') (step_refusal log) step_same, tried_same (suc transactions) (open_refusal log') (open_refusal log) (λ (t : ℕ) (h : t < suc transactions). open_same t)) well
