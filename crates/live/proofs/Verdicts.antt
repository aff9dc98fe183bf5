-- Breach and cycle closed in 01's own words. A breach: the snapshot verdict is no, or a judged read gets 9. Without one the log is clean, and the
-- version verdict shows a cycle exactly where one is closed. And so the answer to a commit, by the verdicts over the log so far.
use mathlib.Core.Path.{◌≡◌, refl, sym, subst, ◌∙◌}
use mathlib.Core.Bool.{Bool, true, false}
use mathlib.Core.Logic.{◌⊎◌, inl, inr, ⊎_elim}
use mathlib.Core.List.{List, [], ◌∷◌}
use Prim.Native.Nat.{ℕ, suc, ◌<◌}
use native.Mathlib.Omega.{arith}
use Rattle.words.specs.Tests.{◌is◌, ◌below◌, ◌and◌, ◌or◌, fails, provided◌then◌else◌, some, lowest}
use Rattle.words.proofs.Truth.{decide, not_both, to_true, to_false, and→, →and, or→, →or_left, →or_right, fails→, →fails, →not_fails, is→, →is, isnt→, below→, provided_true, provided_false, some→, →some, →none, none→}
use Rattle.graph.specs.Shows.{Shape}
use Rattle.graph.specs.Shows as graph
use Rattle.graph.specs.Shows.{Shows}
use Rattle.graph.proofs.Greedy.{shows_some}
use Rattle.verdict.specs.Log.{steps, kind, tx, obj, src, reads, writes, ended, wrote, committed, begin_step, commit_step}
use Rattle.verdict.specs.Answers.{Passed, Refused}
use Rattle.verdict.specs.declared.answers.Cleanness.{Cleanness}
use Rattle.verdict.specs.declared.answers.Snapshot.{Snapshot}
use Rattle.verdict.specs.declared.answers.Snapshot.TheVariants.{Read, Write}
use Rattle.verdict.specs.Refusal.{◌at◌when◌, source_refusal}
use Rattle.verdict.specs.Clean.{judged, judged_other, after_own_write, writes_later, final_source, own_fault, source_fault, faulty_read, is_clean, cleanness}
use Rattle.verdict.specs.Snapshot.{wanted, wrong_read, clash, wrong_commit, wrong_step, snapshot_fault, snapshot_verdict}
use Rattle.verdict.specs.Reason.{Entry, with_reasons}
use Rattle.verdict.specs.Outcome.{order, cycle, shows_order, shows_cycle}
use Rattle.verdict.specs.Version.{version_on, version_edge, Version, version}
use Rattle.verdict.proofs.WellFormed.{when→}
use Rattle.verdict.proofs.Only.{version_one}
use Rattle.live.specs.Answers.{Said, Breach, CycleClosed, Yes, stands}
use Rattle.live.specs.SoFar.{more, so_far}
use Rattle.live.specs.Breach.{no_writer, misread, breached}
use Rattle.live.specs.Closed.{closed}
use Rattle.live.specs.Says.{State, going, over, fresh, number, commit_says, good_says, says, after, after_all}
use Rattle.live.specs.Inner.Accepted.{Accepted}
use Rattle.live.specs.Inner.Seen.{last_writer}
use Rattle.live.proofs.Grows.{begin_before, wanted_is}
use Rattle.live.proofs.Accepted.{commit_step_is, nothing_accepted, accepted_more, good_step}
use Rattle.live.proofs.LastWriter.{Last, None, last_cases}
use Rattle.live.proofs.SeenEdges.{right_read}
use Rattle.live.proofs.Cycles.{starts, no_own, closed_cycle, cycle_closes}
use Rattle.live.proofs.Shut.{so_far_accepted}
use Rattle.live.proofs.Answering.{says_commit}

-- BREACH
-- a fault is not yes
fault_no : (most : ℕ) (log : List ℕ) (k : ℕ) → snapshot_fault most log k ≡ Snapshot.Yes → ⊥
unfolding snapshot_fault provided◌then◌else◌
fault_no most log k e = go (wrong_read log k) e
  where
    go : (b : Bool) → (provided b then Read k (wanted log k) else Write k (lowest (suc most) (clash log k))) ≡ Snapshot.Yes → ⊥
    go true e = let z : ◌≡◌ {A = ℕ} 0 1 = cc in omega arith
    go false e = let z : ◌≡◌ {A = ℕ} 0 1 = cc in omega arith

-- no judged read gets 9
abbrev pub NoNine : List ℕ → Type 0
NoNine log = (i : ℕ) → i < steps log → judged log i ≡ true → source_refusal log i ≡ Passed

-- some judged read gets 9
pub record Nine (log : List ℕ) : Type 0 where
  pub step : ℕ
  pub there : step < steps log
  pub counts : judged log step ≡ true
  pub gets : source_refusal log step ≡ Refused 9 step

module _ (log : List ℕ) (i : ℕ) where
  nine : judged log i ≡ true → no_writer log i ≡ true → source_refusal log i ≡ Refused 9 i
  unfolding source_refusal no_writer judged reads
  nine j n =
      let t : (kind log i is 2 and fails (src log i is 0) and fails (wrote log i (src log i) (obj log i))) ≡ true = →and (→and (and→ j).0 (and→ n).0) (and→ n).1 in
      rw t (unfold ◌at◌when◌ in refl)

  no_nine : no_writer log i ≡ false → source_refusal log i ≡ Passed
  unfolding source_refusal no_writer
  no_nine n =
      let t : (kind log i is 2 and fails (src log i is 0) and fails (wrote log i (src log i) (obj log i))) ≡ false = to_false _ (λ q. not_both (→and (and→ (and→ q).0).1 (and→ q).1) n) in
      rw t (unfold ◌at◌when◌ in refl)

  well_named : judged log i ≡ true → source_refusal log i ≡ Passed → no_writer log i ≡ false
  unfolding source_refusal no_writer judged reads
  well_named j e = to_false _ (λ n. not_both (→and (→and (and→ j).0 (and→ n).0) (and→ n).1) (when→ 9 i _ e))

module _ (most : ℕ) (log : List ℕ) where
  -- a wrong step is a no
  wrong_no : (i : ℕ) → i < steps log → (wrong_read log i or wrong_commit most log i) ≡ true → snapshot_verdict most log ≡ Snapshot.Yes → ⊥
  unfolding snapshot_verdict wrong_step
  wrong_no i l w v = fault_no most log _ (sym (provided_true _ _ (→some _ i l w)) ∙ v)

  -- no breach: the snapshot verdict is yes, and no judged read gets 9
  pub breach_no : breached most log ≡ false → (snapshot_verdict most log ≡ Snapshot.Yes) × NoNine log
  unfolding breached snapshot_verdict wrong_step misread
  breach_no h = (
    provided_false _ _ (→none _ (λ i l. to_false _ (λ q. not_both (⊎_elim (λ w. →or_left _ (→or_right _ w)) (λ w. →or_right _ w) (or→ q)) (none→ _ h i l)))),
    λ i l j. no_nine log i (to_false _ (λ q. not_both (→or_left _ (→or_left _ (→and j q))) (none→ _ h i l))),
  )

  pub no_breach : snapshot_verdict most log ≡ Snapshot.Yes → NoNine log → breached most log ≡ false
  unfolding breached misread
  no_breach v f = →none _ (λ i l. to_false _ (λ q.
      ⊎_elim (λ m. ⊎_elim (λ n. not_both (and→ n).1 (well_named log i (and→ n).0 (f i l (and→ n).0))) (λ w. wrong_no i l (→or_left _ w) v) (or→ m)) (λ w. wrong_no i l (→or_right _ w) v) (or→ q)))

  -- the snapshot verdict is no, or a judged read gets 9
  abbrev pub Wrong : Type 0
  Wrong = (snapshot_verdict most log ≡ Snapshot.Yes → ⊥) ⊎ Nine log

  pub breach_wrong : breached most log ≡ true → Wrong
  unfolding breached misread
  breach_wrong h = let r = some→ h in go r.0 r.1 (or→ r.2)
    where
      go : (i : ℕ) → i < steps log → ((judged log i and no_writer log i or wrong_read log i) ≡ true) ⊎ (wrong_commit most log i ≡ true) → Wrong
      go i l (inl m) = ⊎_elim (λ n. inr (record { step = i; there = l; counts = (and→ n).0; gets = nine log i (and→ n).0 (and→ n).1 })) (λ w. inl (wrong_no i l (→or_left _ w))) (or→ m)
      go i l (inr w) = inl (wrong_no i l (→or_right _ w))

  pub wrong_breach : Wrong → breached most log ≡ true
  wrong_breach w = to_true _ (λ h. let r = breach_no h in ⊎_elim (λ n. n r.0) (λ n. passed≢refused (sym (r.1 n.step n.there n.counts) ∙ n.gets)) w)
    where
      passed≢refused : {p : ℕ} → Passed ≡ Refused 9 p → ⊥
      passed≢refused e = let z : ◌≡◌ {A = ℕ} 0 1 = cc in omega arith

-- CYCLE CLOSED
module _ {most : ℕ} {log : List ℕ} (ok : Accepted most log) (fine : breached most log ≡ false) where
  -- nothing is written after a commit
  late_write : (v x j : ℕ) → committed log v ≡ true → j < steps log → commit_step log v < j → writes log v x j ≡ true → ⊥
  unfolding writes ended
  late_write v x j c h l w =
      let a = and→ (and→ w).0 in
      let k : kind log j ≡ 3 = is→ a.0 in
      let e : tx log j ≡ v = is→ a.1 in
      not_both (→some _ (commit_step log v) l (→or_left _ (rw e (commit_step_is ok v c).1))) (ok.not_ended j h (λ (z : kind log j ≡ 1). omega arith))

  -- a read that names the source wanted is no fault
  right_source : (i : ℕ) → i < steps log → judged_other log i ≡ true → (after_own_write log i ≡ false) × (final_source log i ≡ true)
  unfolding judged_other judged reads after_own_write final_source writes_later
  right_source i h o = go (decide (wrote log i (tx log i) (obj log i)))
    where
      e : src log i ≡ (provided wrote log i (tx log i) (obj log i) then tx log i else last_writer log (begin_step log (tx log i)) (obj log i))
      e = right_read ok fine i h (unfold judged reads in (and→ o).0) ∙ wanted_is log i

      k : kind log i ≡ 2
      k = is→ (and→ (and→ o).0).0

      early : begin_step log (tx log i) < i
      early = begin_before log i (tx log i) (omega arith) (ok.has_begun i h (λ (q : kind log i ≡ 1). omega (arith, k)))

      found : {v : ℕ} → Last log (obj log i) (begin_step log (tx log i)) v ⊎ ((v ≡ 0) × None log (obj log i) (begin_step log (tx log i))) → (v is 0 or (committed log v and fails (some (steps log) (λ m. i below m and writes log v (obj log i) m)))) ≡ true
      found {v} (inl r) =
          →or_right _ (→and r.commit (→fails (→none _ (λ m l. to_false _ (λ q.
          let a = and→ q in
          let y : commit_step log v < begin_step log (tx log i) = r.early in
          late_write v (obj log i) m r.commit l (omega (arith, early, below→ a.0)) a.1)))))
      found (inr r) = →or_left _ (→is r.0)

      go : (wrote log i (tx log i) (obj log i) ≡ true) ⊎ (wrote log i (tx log i) (obj log i) ≡ false)
          → (wrote log i (tx log i) (obj log i) ≡ false) × ((src log i is 0 or (committed log (src log i) and fails (some (steps log) (λ m. i below m and writes log (src log i) (obj log i) m)))) ≡ true)
      go (inl w) = absurd (isnt→ (fails→ (and→ o).1) (e ∙ provided_true _ _ w))
      go (inr w) =
          let z : src log i ≡ last_writer log (begin_step log (tx log i)) (obj log i) = e ∙ provided_false _ _ w in
          (w, rw z (found (last_cases ok (obj log i) (begin_step log (tx log i)) (omega (arith, early)))))

  pub fine_clean : cleanness log ≡ Cleanness.Yes
  unfolding cleanness is_clean faulty_read own_fault source_fault
  fine_clean = provided_true _ _ (→fails (→none _ (λ i h. to_false _ (λ q.
      ⊎_elim (λ a. not_both (and→ a).1 (right_source i h (and→ a).0).0) (λ a. not_both (right_source i h (and→ a).0).1 (fails→ (and→ a).1)) (or→ q)))))

  -- what is shown of the version edges
  shown : (s : Shape) × (w : List ℕ) × Shows (suc most) (committed log) (version_edge log) s w
  shown = shows_some (suc most) (committed log) (version_edge log) (starts ok fine) (no_own ok fine)

  pub closed_shows : closed most log ≡ true → (c : List Entry) × Version most log (cycle c)
  closed_shows h = go shown.2
    where
      go : {s : Shape} {w : List ℕ} → Shows (suc most) (committed log) (version_edge log) s w → (c : List Entry) × Version most log (cycle c)
      go (graph.shows_cycle {c} f) = (with_reasons (version_on log) c, version fine_clean (shows_cycle (graph.shows_cycle f)))
      go (graph.shows_order n f) = let c = closed_cycle ok fine h in absurd (not_both c.1 (n c.0))

  pub open_shows : closed most log ≡ false → (w : List ℕ) × Version most log (order w)
  open_shows h = go shown.2
    where
      go : {s : Shape} {w : List ℕ} → Shows (suc most) (committed log) (version_edge log) s w → (w : List ℕ) × Version most log (order w)
      go (graph.shows_order {w} n f) = (w, version fine_clean (shows_order (graph.shows_order n f)))
      go (graph.shows_cycle {c} f) = absurd (not_both (cycle_closes ok fine c f.one) h)

-- THE ANSWER TO A COMMIT
-- by the verdicts over a log: breach where the snapshot verdict is no or a judged read gets 9; else cycle closed where the version verdict shows a
-- cycle, and yes where it shows an order
pub data Verdicts (most : ℕ) (log : List ℕ) : Said → Type 0 where
  says_breach : Wrong most log → Verdicts most log Breach
  says_closed : {c : List Entry} → (Wrong most log → ⊥) → Version most log (cycle c) → Verdicts most log CycleClosed
  says_yes : {w : List ℕ} → (Wrong most log → ⊥) → Version most log (order w) → Verdicts most log Yes

-- they fix the answer
order≢cycle : {w : List ℕ} {c : List Entry} → order w ≡ cycle c → ⊥
order≢cycle e = let z : ◌≡◌ {A = ℕ} 0 1 = cc in omega arith

pub verdicts_one : {most : ℕ} {log : List ℕ} {a b : Said} → Verdicts most log a → Verdicts most log b → a ≡ b
verdicts_one (says_breach p) (says_breach q) = refl
verdicts_one (says_breach p) (says_closed n v) = absurd (n p)
verdicts_one (says_breach p) (says_yes n v) = absurd (n p)
verdicts_one (says_closed n v) (says_breach q) = absurd (n q)
verdicts_one (says_closed n v) (says_closed m u) = refl
verdicts_one (says_closed n v) (says_yes m u) = absurd (order≢cycle (version_one u v))
verdicts_one (says_yes n v) (says_breach q) = absurd (n q)
verdicts_one (says_yes n v) (says_closed m u) = absurd (order≢cycle (version_one v u))
verdicts_one (says_yes n v) (says_yes m u) = refl

module _ {most : ℕ} (full : List ℕ → Bool) {log : List ℕ} (ok : Accepted most log) where
  pub commit_verdicts : Verdicts most (so_far most log) (commit_says most full log)
  unfolding commit_says
  commit_verdicts = go (decide (breached most l)) (decide (closed most l))
    where
      l : List ℕ
      l = so_far most log

      go : (breached most l ≡ true) ⊎ (breached most l ≡ false) → (closed most l ≡ true) ⊎ (closed most l ≡ false) → Verdicts most l (provided breached most l then Breach else provided closed most l then CycleClosed else Yes)
      go (inl b) c = rw b (unfold provided◌then◌else◌ in (says_breach (breach_wrong most l b)))
      go (inr b) (inl c) = rw (b, c) (unfold provided◌then◌else◌ in (says_closed (λ w. not_both (wrong_breach most l w) b) (closed_shows (so_far_accepted ok) b c).1))
      go (inr b) (inr c) = rw (b, c) (unfold provided◌then◌else◌ in (says_yes (λ w. not_both (wrong_breach most l w) b) (open_shows (so_far_accepted ok) b c).1))

  -- a commit, where `log` has it as its last step, is answered a exactly where the verdicts over the log so far say a
  pub commit_exactly : (a : Said) → (commit_says most full log ≡ a → Verdicts most (so_far most log) a) × (Verdicts most (so_far most log) a → commit_says most full log ≡ a)
  commit_exactly a = (λ e. rw e at commit_verdicts, λ v. verdicts_one commit_verdicts v)

-- WHATEVER CAME BEFORE
-- a judge that goes on has accepted steps
data Reached (most : ℕ) : State → Type 0 where
  still : {log : List ℕ} → Accepted most log → Reached most (going log)
  ended_with : {a : Said} → Reached most (over a)

module _ (most : ℕ) (full : List ℕ → Bool) where
  after_reached : {j : State} (k t x s : ℕ) → Reached most j → Reached most (after most full j k t x s)
  unfolding after
  after_reached k t x s ended_with = ended_with
  after_reached k t x s (still {log} ok) = go (decide (number most full log k t x s is 0)) (decide (stands (good_says most full k (more log k t x s))))
    where
      go : ((number most full log k t x s is 0) ≡ true) ⊎ ((number most full log k t x s is 0) ≡ false) → (stands (good_says most full k (more log k t x s)) ≡ true) ⊎ (stands (good_says most full k (more log k t x s)) ≡ false)
          → Reached most (provided fails (number most full log k t x s is 0) then going log else provided stands (good_says most full k (more log k t x s)) then over (good_says most full k (more log k t x s)) else going (more log k t x s))
      go (inr n) q = subst (Reached most) (sym (provided_true _ _ (→fails n))) (still ok)
      go (inl n) (inl q) = subst (Reached most) (sym (provided_false _ _ (→not_fails n) ∙ provided_true _ _ q)) ended_with
      go (inl n) (inr q) = subst (Reached most) (sym (provided_false _ _ (→not_fails n) ∙ provided_false _ _ q)) (still (accepted_more s ok (good_step full log k t x s (is→ n))))

  all_reached : {j : State} (run : List ℕ) → Reached most j → Reached most (after_all most full j run)
  unfolding after_all
  all_reached {j = j} (k ∷ t ∷ x ∷ s ∷ rest) r = all_reached {j = after most full j k t x s} rest (after_reached k t x s r)
  all_reached {j = j} [] r = r
  all_reached {j = j} (k ∷ []) r = r
  all_reached {j = j} (k ∷ t ∷ []) r = r
  all_reached {j = j} (k ∷ t ∷ x ∷ []) r = r

  reached→ : {log : List ℕ} → Reached most (going log) → Accepted most log
  reached→ (still ok) = ok

  pub run_accepted : (run : List ℕ) {log : List ℕ} → after_all most full fresh run ≡ going log → Accepted most log
  run_accepted run e = reached→ (subst (Reached most) e (all_reached run (still (nothing_accepted most))))

  -- after any run of steps, a good commit is answered a exactly where the verdicts over the log so far, the commit in it, say a
  pub answer_exactly : (run : List ℕ) {log : List ℕ} → after_all most full fresh run ≡ going log → (t x s : ℕ) → number most full log 4 t x s ≡ 0
      → (a : Said) → (says most full (going log) 4 t x s ≡ a → Verdicts most (so_far most (more log 4 t x s)) a) × (Verdicts most (so_far most (more log 4 t x s)) a → says most full (going log) 4 t x s ≡ a)
  answer_exactly run {log} e t x s good a =
      let same = says_commit most full log 4 t x s good refl in
      let exactly = commit_exactly full (accepted_more s (run_accepted run e) (good_step full log 4 t x s good)) a in
      (λ h. exactly.0 (sym same ∙ h), λ v. same ∙ exactly.1 v)
