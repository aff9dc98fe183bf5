-- How large the values of an answer are, and the number and the place of a refusal: for whoever prints or packs them.
use Rattle.std.specs.Prelude.{Ok, Err}
use mathlib.Core.Path.{◌≡◌, refl, sym}
use mathlib.Core.Bool.{Bool, true, false}
use mathlib.Core.List.{List, [], ◌∷◌}
use Prim.Native.Nat.{ℕ, zero, suc, ◌≤◌, ◌<◌}
use native.Mathlib.Omega.{arith}
use lib.ListN.{length}
use Rattle.words.specs.Tests.{◌below◌, provided◌then◌else◌, some, count, lowest}
use Rattle.words.specs.Lists.{member, all}
use Rattle.words.specs.First.{later}
use Rattle.graph.specs.Order.{once_each, is_order}
use Rattle.graph.specs.Cycle.{is_cycle}
use Rattle.verdict.specs.Outcome.{order, cycle, Outcome, none, unclean, OfGraph, shows_order, shows_cycle}
use Rattle.graph.specs.Shows as shows
use Rattle.words.proofs.Truth.{to_true, to_false, and→, is→, below→, not_below→, some→, lowest_is, lowest_bound, highest_is, highest_none, count_above}
use Rattle.words.proofs.Counting.{count_most}
use Rattle.words.proofs.Places.{member_head, member_tail, all→}
use Rattle.graph.proofs.Judge.{nodes, nodes_length, there_node, once_over, once_length, cycle_over, cycle_length}
use Rattle.verdict.specs.Limits.{transactions, objects, most_steps}
use Rattle.verdict.specs.Reason.{Entry, first_object, leading, leading_on, with_reasons}
use Rattle.verdict.proofs.Refused.{one_number, one_place}
use Rattle.verdict.proofs.Threes.{reasons_length}
use Rattle.verdict.specs.Log.{steps, kind, tx, obj, src, begins, begun, committed, committed_count, aborted, begin_step, commits_writer}
use Rattle.verdict.specs.Answers.{Checked, Passed, Refused}
use Rattle.verdict.specs.Refusal.{◌at◌when◌, ◌else_try◌, tried, range_refusal, life_refusal, source_refusal, step_refusal, open_refusal, log_refusal, search_refusal, work_refusal, witness_refusal, order_refusal}
use Rattle.verdict.specs.declared.answers.Fault.{Fault}
use Rattle.verdict.specs.declared.answers.Fault.TheVariants.{Own, Aborted, Unfinal}
use Rattle.verdict.specs.declared.answers.Cleanness.TheVariants.{Yes, Unclean}
use Rattle.verdict.specs.Clean.{after_own_write, is_clean, faulty_read, fault_at, cleanness}
use Rattle.verdict.specs.declared.answers.Snapshot.{Snapshot}
use Rattle.verdict.specs.declared.answers.Snapshot.TheVariants as snapshot_is
use Rattle.verdict.specs.declared.answers.Snapshot.TheVariants.{Read, Write}
use Rattle.verdict.specs.declared.answers.Writer.{Writer}
use Rattle.verdict.specs.declared.answers.Writer.TheVariants.{Store, Committed, Reader}
use Rattle.verdict.specs.Snapshot.{snapshot_step, last_commit, last_committed, wanted, clash, wrong_read, wrong_step, snapshot_fault, snapshot_verdict}
use Rattle.verdict.specs.Conflict.{conflict_edge, Conflict}
use Rattle.verdict.specs.Version.{version_edge, Version, version, version_unclean}
use Rattle.verdict.specs.Replay.{serial}
use Rattle.verdict.specs.Exact.{Exact, exact, exact_none, exact_unclean}
use Rattle.verdict.specs.Next.{Next, next, next_none, list_refusal}
use Rattle.verdict.proofs.WellFormed.{refused≢passed, when→, steps_within, begun_before, Well, well_formed}
use Rattle.verdict.proofs.Cleanly.{cleanness_clean, clean≢unclean}
use Rattle.verdict.proofs.Versions.{not_zero}
use Rattle.verdict.proofs.Computed.{loosely_serial, explains_serial, conflict_ends, version_ends}

-- REFUSALS
-- the numbers and places that a refusal may have
abbrev pub Within : Checked → Type 0
Within r = (n p : ℕ) → r ≡ Refused n p → (n < 10000) × (p < 10000)

pub within_when : (m q : ℕ) (b : Bool) → m < 10000 → q < 10000 → Within (m at q when b)
unfolding ◌at◌when◌
within_when m q true h k n p e = (omega (arith, one_number e), omega (arith, one_place e))
within_when m q false h k n p e = absurd (refused≢passed (sym e))

pub within_else : (a b : Checked) → Within a → (a ≡ Passed → Within b) → Within (a else_try b)
unfolding ◌else_try◌
within_else (Ok _) b f g n p e = g refl n p e
within_else (Err _) b f g n p e = f n p e

within_tried : (n : ℕ) (f : ℕ → Checked) → ((i : ℕ) → i < n → Within (f i)) → Within (tried n f)
unfolding tried
within_tried zero f h = λ m p e. absurd (refused≢passed (sym e))
within_tried (suc n) f h = within_else (tried n f) (f n) (within_tried n f (λ (i : ℕ) (k : i < n). h i (omega arith))) (λ t. h n (omega arith))

step_within : (log : List ℕ) (i : ℕ) → i < 10000 → Within (step_refusal log i)
unfolding step_refusal range_refusal life_refusal source_refusal
step_within log i h =
    within_else _ _
    (within_else _ _ (within_when 3 i _ (omega arith) h) (λ t. within_else _ _ (within_when 4 i _ (omega arith) h) (λ t. within_else _ _ (within_when 5 i _ (omega arith) h) (λ t. within_when 6 i _ (omega arith) h))))
    (λ t. within_else _ _
    (within_else _ _ (within_when 7 i _ (omega arith) h) (λ t. within_when 8 i _ (omega arith) h))
    (λ t. within_when 9 i _ (omega arith) h))

pub log_within : (log : List ℕ) → Within (log_refusal log)
unfolding log_refusal open_refusal
log_within log =
    within_else _ _ (within_when 1 0 _ (omega arith) (omega arith))
    (λ t. within_else _ _ (within_when 2 0 _ (omega arith) (omega arith))
    (λ u. within_else _ _
    (within_tried (steps log) (step_refusal log) (λ (i : ℕ) (h : i < steps log). let s : steps log ≤ most_steps = not_below→ (when→ 2 0 _ u) in step_within log i (omega arith)))
    (λ v. within_tried (suc transactions) _ (λ (i : ℕ) (h : i < suc transactions). within_when 11 i _ (omega arith) (omega arith)))))

pub work_within : (work : List ℕ) → Within (work_refusal work)
unfolding work_refusal
work_within work = within_when 12 0 _ (omega arith) (omega arith)

pub witness_within : (witness : List ℕ) → Within (witness_refusal witness)
unfolding witness_refusal
witness_within witness = within_when 12 0 _ (omega arith) (omega arith)

pub order_within : (handed_in : List ℕ) → Within (order_refusal handed_in)
unfolding order_refusal
order_within handed_in = within_when 12 0 _ (omega arith) (omega arith)

pub list_within : (most : ℕ) (log given : List ℕ) → Within (list_refusal most log given)
unfolding list_refusal
list_within most log given = within_when 14 0 _ (omega arith) (omega arith)

-- ANSWERS
-- a fault at a step up to n
pub data FaultUpto (n : ℕ) : Fault → Type 0 where
  own_upto : {k : ℕ} → k ≤ n → FaultUpto n (Own k)
  aborted_upto : {k : ℕ} → k ≤ n → FaultUpto n (Aborted k)
  unfinal_upto : {k : ℕ} → k ≤ n → FaultUpto n (Unfinal k)

-- the store, a transaction from 1 up to m with a step from 1 up to n, or the reader from 1 up to m
pub data WriterUpto (n m : ℕ) : Writer → Type 0 where
  store_fine : WriterUpto n m Store
  committed_upto : {t s : ℕ} → 1 ≤ t → t ≤ m → 1 ≤ s → s ≤ n → WriterUpto n m (Committed t s)
  reader_upto : {t : ℕ} → 1 ≤ t → t ≤ m → WriterUpto n m (Reader t)

-- a wrong step up to n, and such a writer, or a partner up to m
pub data SnapshotUpto (n m : ℕ) : Snapshot → Type 0 where
  snapshot_fine : SnapshotUpto n m snapshot_is.Yes
  read_upto : {k : ℕ} {w : Writer} → k ≤ n → WriterUpto n m w → SnapshotUpto n m (Read k w)
  write_upto : {k t : ℕ} → k ≤ n → t ≤ m → SnapshotUpto n m (Write k t)

-- at most m members, each up to m
pub record MembersUpto (m : ℕ) (w : List ℕ) : Type 0 where
  pub few : length w ≤ m
  pub each : (t : ℕ) → member t w ≡ true → t ≤ m

-- entries of transactions up to m and objects up to o
pub data EntriesUpto (m o : ℕ) : List Entry → Type 0 where
  no_entry : EntriesUpto m o []
  an_entry : {e : Entry} {c : List Entry} → e.transaction ≤ m → e.object ≤ o → EntriesUpto m o c → EntriesUpto m o (e ∷ c)

-- an order or a cycle of at most m members, each up to m, or a fault at a step up to n
pub data OutcomeUpto (n m : ℕ) : Outcome → Type 0 where
  order_upto : {w : List ℕ} → MembersUpto m w → OutcomeUpto n m (order w)
  cycle_upto : {c : List Entry} → length c ≤ m → EntriesUpto m objects c → OutcomeUpto n m (cycle c)
  none_fine : OutcomeUpto n m none
  unclean_upto : {f : Fault} → FaultUpto n f → OutcomeUpto n m (unclean f)

-- the reasons are on objects
module _ (on : ℕ → ℕ → ℕ → ℕ → Bool) where
  leading_upto : {m : ℕ} (home : ℕ) (c : List ℕ) → ((t : ℕ) → member t c ≡ true → t ≤ m) → EntriesUpto m objects (leading_on on home c)
  unfolding leading_on leading first_object
  leading_upto home [] f = no_entry
  leading_upto home (a ∷ []) f = an_entry (f a (member_head a [])) (lowest_bound {n = objects} _) no_entry
  leading_upto home (a ∷ b ∷ c) f = an_entry (f a (member_head a (b ∷ c))) (lowest_bound {n = objects} _) (leading_upto home (b ∷ c) (λ t h. f t (member_tail t a (b ∷ c) h)))

  reasons_upto : {m : ℕ} (c : List ℕ) → ((t : ℕ) → member t c ≡ true → t ≤ m) → EntriesUpto m objects (with_reasons on c)
  unfolding with_reasons
  reasons_upto [] f = no_entry
  reasons_upto (a ∷ c) f = leading_upto a (a ∷ c) f

module _ (log : List ℕ) (well : log_refusal log ≡ Passed) where
  formed : Well transactions log
  formed = well_formed log well

  pub few_committed : committed_count log ≤ most_steps
  unfolding committed_count
  few_committed =
      let h : steps log ≤ most_steps = steps_within log well in
      let k : committed_count log ≤ steps log = count_most (steps log) _ in
      omega arith

  pub search_within : Within (search_refusal log)
  unfolding search_refusal
  search_within = within_when 13 (committed_count log) _ (omega arith) (omega (arith, few_committed))

  -- at most as many nodes as transactions
  few_nodes : count (suc transactions) (committed log) ≤ transactions
  few_nodes = count_above transactions (committed log) (to_false _ (λ h. not_zero log formed 0 h refl))

  -- what has only nodes for members
  nodes_upto : (w : List ℕ) → all (λ t. member t (nodes (suc transactions) (committed log))) w ≡ true → length w ≤ length (nodes (suc transactions) (committed log)) → MembersUpto transactions w
  nodes_upto w o h =
      record {
        few = omega (arith, nodes_length (suc transactions) (committed log), few_nodes);
        each = λ t m. let r = (there_node (suc transactions) (committed log) t (all→ _ w o t m)).0 in omega arith;
      }

  -- an order, and a cycle
  pub once_few : (w : List ℕ) → once_each (suc transactions) (committed log) w ≡ true → MembersUpto transactions w
  once_few w h = nodes_upto w (once_over (suc transactions) (committed log) w h) (omega (arith, once_length (suc transactions) (committed log) w h))

  pub cycle_few : (edge : ℕ → ℕ → Bool) → ((a b : ℕ) → edge a b ≡ true → (a < suc transactions) × (committed log a ≡ true)) → (c : List ℕ) → is_cycle edge c ≡ true
      → MembersUpto transactions c
  cycle_few edge ends c h = nodes_upto c (cycle_over (suc transactions) (committed log) edge ends c h) (omega (arith, cycle_length (suc transactions) (committed log) edge ends c h))

  shown_few : (edge : ℕ → ℕ → Bool) {on : ℕ → ℕ → ℕ → ℕ → Bool} → ((a b : ℕ) → edge a b ≡ true → (a < suc transactions) × (committed log a ≡ true)) → {a : Outcome}
      → OfGraph transactions log edge on a → OutcomeUpto most_steps transactions a
  unfolding is_order
  shown_few edge ends (shows_order {w} (shows.shows_order n f)) = order_upto (once_few w (and→ f.one).0)
  shown_few edge {on} ends (shows_cycle {c} (shows.shows_cycle f)) =
      let k = cycle_few edge ends c f.one in
      cycle_upto {c = with_reasons on c} (omega (arith, reasons_length on c, k.few)) (reasons_upto on c k.each)

  -- the step of a fault
  pub fault_few : {f : Fault} → cleanness log ≡ Unclean f → FaultUpto most_steps f
  unfolding cleanness fault_at provided◌then◌else◌
  fault_few {f} e = go (is_clean log) (after_own_write log k) (aborted log (src log k)) e
    where
      k : ℕ
      k = lowest (steps log) (faulty_read log)

      low : k ≤ most_steps
      low = omega (arith, lowest_bound {n = steps log} (faulty_read log), steps_within log well)

      go : (b o c : Bool) → (provided b then Yes else Unclean (provided o then Own k else provided c then Aborted k else Unfinal k)) ≡ Unclean f → FaultUpto most_steps f
      go true o c e = absurd (clean≢unclean refl e)
      go false true c e = let z : Own k ≡ f = cc in rw (← z) (own_upto low)
      go false false true e = let z : Aborted k ≡ f = cc in rw (← z) (aborted_upto low)
      go false false false e = let z : Unfinal k ≡ f = cc in rw (← z) (unfinal_upto low)

  wanted_few : (i : ℕ) → i < steps log → WriterUpto most_steps (suc transactions) (wanted log i)
  unfolding wanted last_committed last_commit snapshot_step begin_step commits_writer begun provided◌then◌else◌
  wanted_few i h = go (after_own_write log i) (s below b) (λ e. below→ e)
    where
      b : ℕ
      b = snapshot_step log (tx log i)

      s : ℕ
      s = last_commit log b (obj log i)

      within : b ≤ steps log
      within = lowest_bound (begins log (tx log i))

      -- who commits has begun before
      not_first : s < b → 1 ≤ s
      not_first h =
          let found = highest_is b (commits_writer log (obj log i)) (to_true _ (λ n. let z : s ≡ b = highest_none b (commits_writer log (obj log i)) n in omega arith)) in
          let k : kind log s ≡ 4 = is→ (and→ found.1).0 in
          let r = some→ (begun_before log well s (omega (arith, within)) (λ (z : kind log s ≡ 1). omega arith)) in
          omega (arith, r.1)

      go : (o v : Bool) → (v ≡ true → s < b) → WriterUpto most_steps (suc transactions) (provided o then Reader (tx log i) else provided v then Committed (tx log s) s else Store)
      go true v f = let r = formed.range i h in reader_upto r.0 (omega (arith, r.1))
      go false true f =
          let h : s < b = f refl in
          let r = formed.range s (omega (arith, within)) in
          committed_upto {s = s} r.0 (omega (arith, r.1)) (not_first h) (omega (arith, within, steps_within log well))
      go false false f = store_fine

  pub snapshot_few : SnapshotUpto most_steps (suc transactions) (snapshot_verdict transactions log)
  unfolding snapshot_verdict snapshot_fault provided◌then◌else◌
  snapshot_few = go (some (steps log) (wrong_step transactions log)) (wrong_read log k) (λ e. (lowest_is {n = steps log} (wrong_step transactions log) e).0)
    where
      k : ℕ
      k = lowest (steps log) (wrong_step transactions log)

      t : ℕ
      t = lowest (suc transactions) (clash log k)

      low : k ≤ most_steps
      low = omega (arith, lowest_bound {n = steps log} (wrong_step transactions log), steps_within log well)

      go : (b c : Bool) → (b ≡ true → k < steps log) → SnapshotUpto most_steps (suc transactions) (provided b then provided c then Read k (wanted log k) else Write k t else snapshot_is.Yes)
      go true true f = read_upto low (wanted_few k (f refl))
      go true false f = write_upto low (lowest_bound (clash log k))
      go false c f = snapshot_fine

  pub conflict_few : {a : Outcome} → Conflict transactions log a → OutcomeUpto most_steps transactions a
  conflict_few = shown_few (conflict_edge log) (conflict_ends log formed)

  pub version_few : {a : Outcome} → Version transactions log a → OutcomeUpto most_steps transactions a
  version_few (version c h) = shown_few (version_edge log) (version_ends log formed (cleanness_clean log c)) h
  version_few (version_unclean e) = unclean_upto (fault_few e)

  pub exact_few : {a : Outcome} → Exact transactions log a → OutcomeUpto most_steps transactions a
  unfolding serial
  exact_few (exact {w} f) = order_upto (once_few w (loosely_serial transactions log w f.one))
  exact_few (exact_none c n) = none_fine
  exact_few (exact_unclean e) = unclean_upto (fault_few e)

  pub next_few : {v : List ℕ} {a : Outcome} → Next transactions log v a → OutcomeUpto most_steps transactions a
  unfolding serial later
  next_few (next {w} f) = order_upto (once_few w (explains_serial transactions log w (and→ f.one).0))
  next_few (next_none n) = none_fine
