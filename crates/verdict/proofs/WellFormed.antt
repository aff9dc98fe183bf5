-- What is known of a log that no number turns away.
use Rattle.std.specs.Prelude.{Ok, Err}
use mathlib.Core.Path.{◌≡◌, refl, sym, subst, ◌∙◌}
use mathlib.Core.Bool.{Bool, true, false}
use mathlib.Core.Logic.{◌⊎◌, inl, inr, ⊎_elim}
use mathlib.Core.List.{List}
use Prim.Native.Nat.{ℕ, zero, suc, ◌*◌, ◌%◌, ◌≤◌, ◌<◌}
use native.Mathlib.Omega.{arith}
use native.Mathlib.Nat.{not-suc-le-zero}
use lib.ListN.{length}
use Rattle.words.specs.Tests.{◌is◌, ◌below◌, ◌upto◌, ◌and◌, ◌or◌, fails}
use Rattle.verdict.specs.Limits.{transactions, objects, most_steps}
use Rattle.verdict.specs.Log.{steps, kind, tx, obj, src, commits, aborts, writer, begun, ended, wrote}
use Rattle.verdict.specs.Answers.{Checked, Passed, Refused}
use Rattle.verdict.specs.Refusal.{◌at◌when◌, ◌else_try◌, tried, object_allowed, source_allowed, range_refusal, life_refusal, source_refusal, step_refusal, open_refusal, log_refusal}
use Rattle.verdict.specs.Inner.Checking.{InRange}
use Rattle.words.proofs.Truth.{decide, not_both, to_true, to_false, and→, →and, or→, →or_left, →or_right, →fails, not_fails→, is→, →is, isnt→, →isnt, upto→, below→, not_below→, some→, →some, provided_true, provided_false}

HasPassed : Checked → Type 0
HasPassed (Ok _) = Unit {0}
HasPassed (Err _) = ⊥

pub refused≢passed : {n p : ℕ} → Refused n p ≡ Passed → ⊥
unfolding HasPassed
refused≢passed e = subst HasPassed (sym e) tt

pub else_try→ : {a b : Checked} → (a else_try b) ≡ Passed → (a ≡ Passed) × (b ≡ Passed)
unfolding ◌else_try◌
else_try→ {a = Ok _} {b} h = (refl, h)
else_try→ {a = Err _} {b} h = absurd (refused≢passed h)

pub when→ : (n p : ℕ) (b : Bool) → (n at p when b) ≡ Passed → b ≡ false
unfolding ◌at◌when◌
when→ n p true h = absurd (refused≢passed h)
when→ n p false h = refl

pub tried→ : {n : ℕ} (f : ℕ → Checked) → tried n f ≡ Passed → (i : ℕ) → i < n → f i ≡ Passed
unfolding tried
tried→ {n = zero} f h i k = absurd (not-suc-le-zero k)
tried→ {n = suc n} f h i k = go (decide (i below n)) (else_try→ h).1 (λ m. tried→ {n = n} f (else_try→ h).0 i m)
  where
    go : ((i below n) ≡ true) ⊎ ((i below n) ≡ false) → f n ≡ Passed → (i < n → f i ≡ Passed) → f i ≡ Passed
    go (inl m) q rec = rec (below→ m)
    go (inr m) q rec = let e : i ≡ n = omega (arith, not_below→ m) in rw e q

-- a step to which none of 3 to 6 applies
module _ (log : List ℕ) (i : ℕ) (within : InRange log i) where
  test_3 : fails (1 upto kind log i and kind log i upto 5) ≡ false
  unfolding InRange range_refusal
  test_3 = when→ 3 i _ (else_try→ within).0

  test_4 : fails (1 upto tx log i and tx log i upto transactions) ≡ false
  unfolding InRange range_refusal
  test_4 = when→ 4 i _ (else_try→ (else_try→ within).1).0

  test_5 : fails (object_allowed (kind log i) (obj log i)) ≡ false
  unfolding InRange range_refusal
  test_5 = when→ 5 i _ (else_try→ (else_try→ (else_try→ within).1).1).0

  test_6 : fails (source_allowed (kind log i) (src log i)) ≡ false
  unfolding InRange range_refusal
  test_6 = when→ 6 i _ (else_try→ (else_try→ (else_try→ within).1).1).1

  -- kinds are 1..5
  pub kind_within : (1 ≤ kind log i) × (kind log i ≤ 5)
  kind_within = let r = and→ (not_fails→ test_3) in (upto→ r.0, upto→ r.1)

  -- transactions are 1..128
  pub tx_within : (1 ≤ tx log i) × (tx log i ≤ transactions)
  tx_within = let r = and→ (not_fails→ test_4) in (upto→ r.0, upto→ r.1)

  -- objects are 0..63
  pub object_within : obj log i < objects
  unfolding object_allowed
  object_within = go (decide (kind log i is 2 or kind log i is 3))
    where
      allowed : object_allowed (kind log i) (obj log i) ≡ true
      allowed = not_fails→ test_5

      go : ((kind log i is 2 or kind log i is 3) ≡ true) ⊎ ((kind log i is 2 or kind log i is 3) ≡ false) → obj log i < objects
      go (inl t) = below→ (rw (provided_true (obj log i below objects) (obj log i is 0) t) at allowed)
      go (inr t) = omega (arith, is→ (rw (provided_false (obj log i below objects) (obj log i is 0) t) at allowed))

  -- sources of reads are 0..128, and all others are 0
  pub source_within : kind log i ≡ 2 → src log i ≤ transactions
  unfolding source_allowed
  source_within k = upto→ (rw (provided_true (src log i upto transactions) (src log i is 0) (→is k)) at (not_fails→ test_6))

  pub source_none : (kind log i ≡ 2 → ⊥) → src log i ≡ 0
  unfolding source_allowed
  source_none k = is→ (rw (provided_false (src log i upto transactions) (src log i is 0) (→isnt k)) at (not_fails→ test_6))

  -- .. so that only a read has a source other than 0
  pub sourced_read : (src log i ≡ 0 → ⊥) → kind log i ≡ 2
  sourced_read z = ⊎_elim is→ (λ e. absurd (z (source_none (isnt→ e)))) (decide (kind log i is 2))

-- .. which is so where no number turns the step away
pub step_within : (log : List ℕ) (i : ℕ) → step_refusal log i ≡ Passed → InRange log i
unfolding step_refusal InRange
step_within log i h = (else_try→ h).0

-- what begins had not begun, and any other step is one of a transaction that has begun and not ended
module _ (log : List ℕ) (i : ℕ) (taken : step_refusal log i ≡ Passed) where
  pub fresh : kind log i ≡ 1 → begun log i (tx log i) ≡ false
  unfolding step_refusal life_refusal
  fresh k = to_false _ (λ b. not_both (→and (→is k) b) (when→ 7 i _ (else_try→ (else_try→ (else_try→ taken).1).0).0))

  pub alive : (kind log i ≡ 1 → ⊥) → (begun log i (tx log i) ≡ true) × (ended log i (tx log i) ≡ false)
  unfolding step_refusal life_refusal
  alive n =
      let test : (fails (kind log i is 1) and (fails (begun log i (tx log i)) or ended log i (tx log i))) ≡ false = when→ 8 i _ (else_try→ (else_try→ (else_try→ taken).1).0).1 in
      let other : fails (kind log i is 1) ≡ true = →fails (→isnt n) in
      (to_true _ (λ q. not_both (→and other (→or_left _ (→fails q))) test), to_false _ (λ q. not_both (→and other (→or_right _ q)) test))

module _ (log : List ℕ) (well : log_refusal log ≡ Passed) where
  step_taken : (i : ℕ) → i < steps log → step_refusal log i ≡ Passed
  unfolding log_refusal
  step_taken = tried→ _ (else_try→ (else_try→ (else_try→ well).1).1).0

  -- four numbers for each step
  pub whole_steps : length log ≡ 4 * steps log
  unfolding log_refusal steps
  whole_steps = let e : length log % 4 ≡ 0 = is→ (not_fails→ (when→ 1 0 _ (else_try→ well).0)) in omega arith

  pub steps_within : steps log ≤ most_steps
  unfolding log_refusal
  steps_within = not_below→ (when→ 2 0 _ (else_try→ (else_try→ well).1).0)

  -- the tests that the theorems rest on fail at each step
  module _ (i : ℕ) (h : i < steps log) where
    pub ranges : InRange log i
    ranges = step_within log i (step_taken i h)

    test_9 : (kind log i is 2 and fails (src log i is 0) and fails (wrote log i (src log i) (obj log i))) ≡ false
    unfolding step_refusal source_refusal
    test_9 = when→ 9 i _ (else_try→ (else_try→ (step_taken i h)).1).1

    -- a source other than 0 wrote the object in an earlier step
    source_wrote : kind log i ≡ 2 → (src log i ≡ 0 → ⊥) → writer log (obj log i) (src log i) ≡ true
    unfolding wrote writer
    source_wrote k n =
        let r = some→ (to_true (wrote log i (src log i) (obj log i)) (λ q. not_both (→and (→and (→is k) (→fails (→isnt n))) (→fails q)) test_9)) in
        →some _ r.0 (omega (arith, r.1)) r.2

  -- a transaction ends once
  pub ends_once : (t i j : ℕ) → i < j → j < steps log → (commits log t i or aborts log t i) ≡ true → (commits log t j or aborts log t j) ≡ true → ⊥
  unfolding commits aborts ended
  ends_once t i j h k p q = ⊎_elim (λ (c : commits log t j ≡ true). again 4 (and→ c).0 (and→ c).1 (λ (z : 4 ≡ 1). omega arith)) (λ (a : aborts log t j ≡ true). again 5 (and→ a).0 (and→ a).1 (λ (z : 5 ≡ 1). omega arith)) (or→ q)
    where
      again : (n : ℕ) → (kind log j is n) ≡ true → (tx log j is t) ≡ true → (n ≡ 1 → ⊥) → ⊥
      again n a e f =
          let g : ended log j (tx log j) ≡ true = →some _ i h (rw (is→ {m = tx log j} {n = t} e) p) in
          not_both g (alive log j (step_taken j k) (λ z. f (sym (is→ {m = kind log j} {n = n} a) ∙ z))).1

  commits_once : (t i j : ℕ) → i < j → j < steps log → commits log t i ≡ true → commits log t j ≡ true → ⊥
  commits_once t i j h k p q = ends_once t i j h k (→or_left _ p) (→or_left _ q)

  -- who begins ends
  pub ends : (t : ℕ) → t ≤ transactions → begun log (steps log) t ≡ true → ended log (steps log) t ≡ true
  unfolding log_refusal open_refusal
  ends t h g =
      let o = when→ 11 t _ (tried→ _ (else_try→ (else_try→ (else_try→ well).1).1).1 t (omega arith)) in
      to_true _ (λ n. not_both (→and g (→fails n)) o)

  -- a step that does not begin is one of a transaction that has begun before it
  pub begun_before : (i : ℕ) → i < steps log → (kind log i ≡ 1 → ⊥) → begun log i (tx log i) ≡ true
  begun_before i h n = (alive log i (step_taken i h) n).0

  pub has_begun : (i : ℕ) → i < steps log → (kind log i ≡ 1 → ⊥) → begun log (steps log) (tx log i) ≡ true
  unfolding begun
  has_begun i h n =
      let r = some→ (begun_before i h n) in
      →some _ r.0 (omega (arith, r.1)) r.2

-- What the theorems need of a log, with transactions at most `most`.
pub record Well (most : ℕ) (log : List ℕ) : Type 0 where
  -- transactions are 1 to `most`
  pub range : (i : ℕ) → i < steps log → (1 ≤ tx log i) × (tx log i ≤ most)
  -- objects of reads and writes are 0..63
  pub object : (i : ℕ) → i < steps log → (kind log i ≡ 2) ⊎ (kind log i ≡ 3) → obj log i < objects
  -- sources of reads are 0 to `most`
  pub sources : (i : ℕ) → i < steps log → kind log i ≡ 2 → src log i ≤ most
  -- a source other than 0 wrote the object
  pub source : (i : ℕ) → i < steps log → kind log i ≡ 2 → (src log i ≡ 0 → ⊥) → writer log (obj log i) (src log i) ≡ true
  -- a transaction commits once
  pub once : (t i j : ℕ) → i < j → j < steps log → commits log t i ≡ true → commits log t j ≡ true → ⊥

pub well_formed : (log : List ℕ) → log_refusal log ≡ Passed → Well transactions log
well_formed log well = record { range = λ i h. tx_within log i (ranges log well i h); object = λ i h k. object_within log i (ranges log well i h); sources = λ i h. source_within log i (ranges log well i h); source = source_wrote log well; once = commits_once log well }
