-- What the check notes of each step, and what is learned of the whole log.
use mathlib.Core.Path.{◌≡◌, refl, sym, ◌∙◌}
use mathlib.Core.Bool.{false}
use mathlib.Core.Logic.{◌⊎◌, ⊎_elim}
use mathlib.Core.List.{List}
use Prim.Native.Nat.{ℕ, suc, ◌+◌, ◌≤◌}
use native.Mathlib.Omega.{arith}
use lib.ListN.{length, get_or, set, replicate, length-set, length-replicate}
use Rattle.words.specs.Tests.{◌is◌, ◌upto◌, ◌and◌, ◌or◌, some, lowest}
use Rattle.words.proofs.Truth.{same_test, and→, →and, and_no_left, and_no_right, →none, or→, →or_left, →or_right, is→, →is, →isnt, →upto, to_false, not_both, →some, some→, some_skip, some_next}
use Rattle.graph.specs.Matrix.{takes_part}
use Rattle.graph.proofs.TwoWords.{no_member}
use Rattle.verdict.specs.Limits.{transactions}
use Rattle.verdict.specs.Log.{steps, kind, tx, begins, commits, begun, ended, writes, writer, committed}
use Rattle.verdict.specs.Refusal.{tried, step_refusal}
use Rattle.verdict.specs.Clean.{own_fault}
use Rattle.verdict.specs.Inner.Marks.{does, Committed}
use Rattle.verdict.specs.Inner.Checking.{StepsBefore, InOrder, Lived, Noted, Learned}
use Rattle.verdict.specs.Inner.WriteTable.{Versions}
use Rattle.verdict.specs.declared.refusal.Examined.{Examined}
use Rattle.verdict.specs.Answers.{Passed}
use Rattle.verdict.proofs.WellFormed.{tried→, step_within, tx_within, fresh, alive}
use Rattle.verdict.proofs.FirstSteps.{steps_none, steps_skip, steps_more, steps_all}
use Rattle.verdict.proofs.CommitOrders.{order_none, order_skip, order_more}
use Rattle.verdict.proofs.Lives.{lived_none, lived_on, lived_begin, lived_end}
use Rattle.verdict.proofs.WriteMarks.{none_written, write_skip, all_written}

-- before the first step there is nothing to note
pub noted_none : (log : List ℕ) (m n : ℕ) → m ≡ suc transactions → n ≡ steps log → Noted log 0 (replicate m 0) (replicate m n) (replicate m n) (replicate 2 0) (replicate m 0) (set (replicate m 0) 0 18446744073709551615)
unfolding some
noted_none log m n h e = record {
  has_lived = lived_none log m h;
  has_begun = steps_none log 1 m n h e;
  has_committed = record { at_step = steps_none log 4 m n h e; who = no_member 2; after = order_none log m h };
  has_written = none_written log m (omega arith);
  writes_size = length-set (replicate m 0) 0 _ ∙ length-replicate m 0 ∙ h;
}

-- A STEP THAT NO NUMBER TURNS AWAY
module _ (log : List ℕ) (i : ℕ) (passed : step_refusal log i ≡ Passed) where
  tx_in : (1 ≤ tx log i) × (tx log i ≤ transactions)
  tx_in = tx_within log i (step_within log i passed)

  -- a begin
  module _ (begin : kind log i ≡ 1) where
    pub begin_lives : {l : List ℕ} → Lived log i l → Lived log (i + 1) (set l (tx log i) 1)
    begin_lives lived = lived_begin log i lived begin tx_in.1 (fresh log i passed begin)

    pub begin_noted : {b : List ℕ} → StepsBefore log 1 i b → StepsBefore log 1 (i + 1) (set b (tx log i) i)
    unfolding does begun begins
    begin_noted before = steps_more log 1 i before begin tx_in.1 (fresh log i passed begin)

  -- an end
  pub end_lives : {l : List ℕ} → (kind log i ≡ 4) ⊎ (kind log i ≡ 5) → Lived log i l → Lived log (i + 1) (set l (tx log i) 2)
  end_lives end lived = lived_end log i lived end tx_in.1 (alive log i passed (λ k. ⊎_elim (λ c. omega (arith, k, c)) (λ a. omega (arith, k, a)) end)).0

  -- a commit
  pub commit_noted : {c p q o : List ℕ} → kind log i ≡ 4 → InOrder log i c p o
      → ((t : ℕ) → takes_part transactions q t ≡ (t is tx log i and 1 upto tx log i and tx log i upto transactions or takes_part transactions p t))
      → InOrder log (i + 1) (set c (tx log i) i) q (set (set o (tx log i) (get_or o 0 0)) 0 (tx log i))
  unfolding does ended commits
  commit_noted {p} {q} k before f = record {
    at_step = steps_more log 4 i before.at_step k tx_in.1 new;
    who = one;
    after = order_more log i before.after refl k tx_in.0 tx_in.1 new;
  }
    where
      new : some i (does log 4 (tx log i)) ≡ false
      new = to_false _ (λ s. let r = some→ s in not_both (→some _ r.0 r.1 (→or_left _ r.2)) (alive log i passed (λ (z : kind log i ≡ 1). omega arith)).1)

      one : (t : ℕ) → takes_part transactions q t ≡ some (i + 1) (does log 4 t)
      one t =
          f t
          ∙ same_test (λ h. ⊎_elim (λ z. some_next i (does log 4 t) ∙ →or_right _ (→and (→is k) (→is (sym (is→ (and→ (and→ z).0).0))))) (λ z. some_next i (does log 4 t) ∙ →or_left _ (sym (before.who t) ∙ z)) (or→ h))
          (λ h. ⊎_elim (λ z. →or_right _ (before.who t ∙ z)) (λ z. →or_left _ (→and (→and (→is (sym (is→ (and→ z).1))) (→upto tx_in.0)) (→upto tx_in.1))) (or→ (sym (some_next i (does log 4 t)) ∙ h)))

-- nobody commits at a step of another kind
pub none_commits : (log : List ℕ) (i : ℕ) {c p o : List ℕ} → (kind log i ≡ 4 → ⊥) → InOrder log i c p o → InOrder log (i + 1) c p o
unfolding does
none_commits log i k before = record {
  at_step = steps_skip log 4 i before.at_step k;
  who = λ t. before.who t ∙ sym (some_skip i (does log 4 t) (and_no_left _ (→isnt k)));
  after = order_skip log i before.after k;
}

-- WHAT IS NOTED BEHIND A STEP, by its kind
module _ (log : List ℕ) (i : ℕ) {l b c p o w : List ℕ} (noted : Noted log i l b c p o w) where
  pub behind_begin : {m d : List ℕ} → kind log i ≡ 1 → Lived log (i + 1) m → StepsBefore log 1 (i + 1) d → Noted log (i + 1) m d c p o w
  behind_begin k lived begun = record {
    has_lived = lived;
    has_begun = begun;
    has_committed = none_commits log i (λ (q : kind log i ≡ 4). omega arith) noted.has_committed;
    has_written = write_skip log i noted.has_written (λ (q : kind log i ≡ 3). omega arith);
    writes_size = noted.writes_size;
  }

  -- a read or a write
  pub behind_touch : {v : List ℕ} → 2 ≤ kind log i → kind log i ≤ 3 → Versions log (i + 1) v → length v ≡ suc transactions → Noted log (i + 1) l b c p o v
  behind_touch least most versions size = record {
    has_lived = lived_on log i noted.has_lived (λ (q : kind log i ≡ 1). omega arith) (λ (q : kind log i ≡ 4). omega arith) (λ (q : kind log i ≡ 5). omega arith);
    has_begun = steps_skip log 1 i noted.has_begun (λ (q : kind log i ≡ 1). omega arith);
    has_committed = none_commits log i (λ (q : kind log i ≡ 4). omega arith) noted.has_committed;
    has_written = versions;
    writes_size = size;
  }

  -- a commit or an abort
  pub behind_last : {m d q e : List ℕ} → 4 ≤ kind log i → Lived log (i + 1) m → InOrder log (i + 1) d q e → Noted log (i + 1) m b d q e w
  behind_last least lived order = record {
    has_lived = lived;
    has_begun = steps_skip log 1 i noted.has_begun (λ (q : kind log i ≡ 1). omega arith);
    has_committed = order;
    has_written = write_skip log i noted.has_written (λ (q : kind log i ≡ 3). omega arith);
    writes_size = noted.writes_size;
  }

-- what is noted after the last step is what is to be learned
pub who_learned : (log : List ℕ) {l b c p o w : List ℕ} → Noted log (steps log) l b c p o w → Committed log p
unfolding does committed commits
who_learned log noted = record { mark = noted.has_committed.who }

pub all_learned : (log : List ℕ) {l w : List ℕ} {r : Examined} → Noted log (steps log) l r.begins r.commits r.part r.earlier w → r.writes ≡ set w 0 0
    → r.own ≡ lowest (steps log) (own_fault log) → tried (steps log) (step_refusal log) ≡ Passed → Learned log r
unfolding writer writes
all_learned log {w} noted e own passed = record {
  begin_steps = steps_all log 1 noted.has_begun;
  commit_steps = steps_all log 4 noted.has_committed.at_step;
  who = who_learned log noted;
  order = noted.has_committed.after;
  marks = rw e (all_written log (omega (arith, noted.writes_size)) nobody noted.has_written);
  first_own = own;
}
  where
    -- no step is one of transaction 0
    nobody : (x : ℕ) → writer log x 0 ≡ false
    nobody x = →none _ (λ i h. and_no_left _ (and_no_right _ (→isnt (λ z. omega (arith, z, (tx_within log i (step_within log i (tried→ _ passed i h))).0)))))
