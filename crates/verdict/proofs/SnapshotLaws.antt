-- The snapshot verdict: what a read should have found, which writers clash, and the verdict from the lowest of both.
use Rattle.std.specs.Prelude.{None, Some}
use Rattle.verdict.specs.declared.snapshots.Clash.{Clash}
use mathlib.Core.Path.{◌≡◌, refl, sym, ap, subst, ◌∙◌}
use mathlib.Core.Bool.{Bool, true, false}
use mathlib.Core.Logic.{◌⊎◌, inl, inr}
use mathlib.Core.List.{List}
use Prim.Native.Nat.{ℕ, suc, ◌-◌, ◌≤◌, ◌<◌}
use native.Mathlib.Omega.{arith}
use native.Mathlib.Numerals.{add-one}
use lib.ListN.{get_or}
use Rattle.words.specs.Tests.{◌below◌, provided◌then◌else◌, some, lowest, highest}
use Rattle.words.proofs.Truth.{decide, not_both, to_false, and→, →and, and_no_left, and_no_right, →or_left, →or_right, or_false, →is, is→, →isnt, →below, →not_below, provided_true, provided_false, some→, →some, none→, →none, none_next, lowest_is, lowest_at, lowest_passes, lowest_bound, below_lowest, highest_yes, highest_no, highest_is, highest_none}
use Rattle.verdict.specs.Limits.{transactions, objects}
use Rattle.verdict.specs.Log.{steps, kind, tx, obj, begins, writes, committed, commits, writer, begin_step, commit_step, commits_writer}
use Rattle.verdict.specs.Clean.{judged_other, after_own_write}
use Rattle.verdict.specs.declared.step.Step.{Step}
use Rattle.verdict.specs.declared.answers.Snapshot.TheVariants.{Yes, Read, Write}
use Rattle.verdict.specs.declared.answers.Writer.{Writer}
use Rattle.verdict.specs.declared.answers.Writer.TheVariants.{Store, Committed, Reader}
use Rattle.verdict.specs.Snapshot.{writer_number, snapshot_step, last_commit, last_committed, wanted, wrong_read, overlap, clash, wrong_commit, wrong_step, snapshot_fault, snapshot_verdict}
use Rattle.verdict.specs.Inner.StepAt.{StepAt}
use Rattle.verdict.specs.Inner.Marks.{does, FirstSteps}
use Rattle.verdict.specs.Inner.Clashes.{partner, FirstClash}
use Rattle.verdict.proofs.WellFormed.{Well}
use Rattle.verdict.proofs.JudgedReads.{other_kind}
use Rattle.verdict.proofs.Versions.{share, shared}

-- THE LAST COMMITTED WRITER
module _ (log : List ℕ) (x : ℕ) where
  -- its number alone, in 01's words: the transaction of the last such commit, 0 if there is none
  pub last_number : (b : ℕ) → writer_number (last_committed log b x) ≡ (provided last_commit log b x below b then tx log (last_commit log b x) else 0)
  unfolding last_committed writer_number provided◌then◌else◌
  last_number b = go (last_commit log b x below b)
    where
      go : (v : Bool) → writer_number (provided v then Committed (tx log (last_commit log b x)) (last_commit log b x) else Store) ≡ (provided v then tx log (last_commit log b x) else 0)
      go true = refl
      go false = refl

  pub last_none : last_committed log 0 x ≡ Store
  unfolding last_committed last_commit highest
  last_none = provided_false _ _ (→not_below (omega arith))

  pub last_here : (b : ℕ) → commits_writer log x b ≡ true → last_committed log (suc b) x ≡ Committed (tx log b) b
  unfolding last_committed last_commit
  last_here b h = rw (highest_yes b (commits_writer log x) h) (provided_true _ _ (→below (omega arith)))

  pub last_before : (b : ℕ) → commits_writer log x b ≡ false → last_committed log (suc b) x ≡ last_committed log b x
  unfolding last_committed last_commit
  last_before b h = go (decide (some b (commits_writer log x)))
    where
      go : (some b (commits_writer log x) ≡ true) ⊎ (some b (commits_writer log x) ≡ false) → last_committed log (suc b) x ≡ last_committed log b x
      go (inl k) =
          let l : highest b (commits_writer log x) < b = (highest_is b (commits_writer log x) k).0 in
          rw (highest_no b (commits_writer log x) h k) (provided_true _ _ (→below (omega arith)) ∙ sym (provided_true _ _ (→below l)))
      go (inr k) =
          provided_false _ _ (→not_below (omega (arith, highest_none (suc b) (commits_writer log x) (rw (add-one b) at (none_next b (commits_writer log x) k h)))))
          ∙ sym (provided_false _ _ (→not_below (omega (arith, highest_none b (commits_writer log x) k))))

  -- the same, one step back from j
  module _ (j : ℕ) (h : 0 < j) where
    pub found_back : commits_writer log x (j - 1) ≡ true → last_committed log j x ≡ Committed (tx log (j - 1)) (j - 1)
    found_back k = let e : suc (j - 1) ≡ j = omega arith in subst (λ (m : ℕ). last_committed log m x ≡ Committed (tx log (j - 1)) (j - 1)) e (last_here (j - 1) k)

    pub further_back : commits_writer log x (j - 1) ≡ false → last_committed log j x ≡ last_committed log (j - 1) x
    further_back k = let e : suc (j - 1) ≡ j = omega arith in subst (λ (m : ℕ). last_committed log m x ≡ last_committed log (j - 1) x) e (last_before (j - 1) k)

-- A WRONG READ
module _ (log : List ℕ) (i : ℕ) where
  pub not_wrong : judged_other log i ≡ false → wrong_read log i ≡ false
  unfolding wrong_read
  not_wrong j = and_no_left _ j

  -- what it should have found: the reader itself after its own write
  pub wanted_own : {s : Step} → StepAt log i s → after_own_write log i ≡ true → Reader s.tx ≡ wanted log i
  unfolding wanted
  wanted_own step w = ap Reader step.tx_is ∙ sym (provided_true _ _ w)

  -- .. and else who committed last before b, where its transaction begins
  pub wanted_there : {s : Step} {b : ℕ} {r : Writer} → StepAt log i s → after_own_write log i ≡ false → b ≡ lowest (steps log) (does log 1 s.tx) → r ≡ last_committed log b s.obj → r ≡ wanted log i
  unfolding wanted snapshot_step begin_step begins does
  wanted_there step w e f = f ∙ rw (e, step.tx_is, step.obj_is) refl ∙ sym (provided_false _ _ w)

-- A CLASH
module _ (log : List ℕ) (j p : ℕ) where
  pub no_commit : (kind log j ≡ 4 → ⊥) → clash log j p ≡ false
  unfolding clash
  no_commit k = and_no_left _ (and_no_left _ (and_no_left _ (and_no_left _ (→isnt k))))

  commit_of : clash log j p ≡ true → kind log j ≡ 4
  unfolding clash
  commit_of h = is→ (and→ (and→ (and→ (and→ h).0).0).0).0

  -- of the committing transaction t and a partner, who both write an object
  module _ {t : ℕ} (committing : t ≡ tx log j) where
    pub shared_object : (x : ℕ) → kind log j ≡ 4 → partner log j t p ≡ true → writer log x t ≡ true → writer log x p ≡ true → clash log j p ≡ true
    unfolding clash partner
    shared_object x k q m o =
        let r = and→ (rw committing at q) in
        let s = and→ r.0 in
        →and (→and (→and (→and (→is k) s.0) s.1) r.1) (share log x (tx log j) p (rw committing at m) o)

    pub is_partner : clash log j p ≡ true → partner log j t p ≡ true
    unfolding clash partner
    is_partner h =
        let r = and→ (and→ h).0 in
        let s = and→ r.0 in
        rw committing (→and (→and (and→ s.0).1 s.1) r.1)

    pub not_partner : partner log j t p ≡ false → clash log j p ≡ false
    not_partner q = to_false _ (λ h. not_both (is_partner h) q)

    pub common_object : {most : ℕ} → Well most log → clash log j p ≡ true → (x : ℕ) × (x < objects) × (writer log x t ≡ true) × (writer log x p ≡ true)
    unfolding clash writer writes
    common_object well h =
        let o = shared log (tx log j) p (and→ h).1 in
        let w = some→ o.1 in
        let a = and→ w.2 in
        let e : obj log w.0 ≡ o.0 = is→ a.1 in
        (o.0, rw e at (well.object w.0 w.1 (inr (is→ (and→ a.0).0))), rw committing o.1, o.2)

-- the search over commits, partners and objects, below step k
module _ (log : List ℕ) (k j : ℕ) (none_earlier : some j (wrong_commit transactions log) ≡ false) where
  pub clash_found : (p : ℕ) → j < k → p ≤ transactions → some p (clash log j) ≡ false → clash log j p ≡ true → FirstClash log k (Some (record { step = j; partner = p }))
  unfolding wrong_commit
  clash_found p h l n c =
      (h, sym (lowest_at (wrong_commit transactions log) j h (→some _ p (omega arith) c) (none→ _ none_earlier)), sym (lowest_at (clash log j) p (omega arith) c (none→ _ n)))

  pub no_clash : j ≡ k → FirstClash log k None
  no_clash e = rw e at none_earlier

-- THE STEPS OF A TRANSACTION
pub begins_within : (log : List ℕ) (t : ℕ) → snapshot_step log t ≤ steps log
unfolding snapshot_step begin_step
begins_within log t = lowest_bound {n = steps log} (begins log t)

-- by the tables of begins and commits
module _ (log : List ℕ) {table : List ℕ} (t : ℕ) (h : t ≤ transactions) where
  pub begin_at : FirstSteps log 1 table → get_or table t 0 ≡ snapshot_step log t
  unfolding snapshot_step begin_step begins does
  begin_at b = b.entry t h

  pub commit_at : FirstSteps log 4 table → get_or table t 0 ≡ commit_step log t
  unfolding commit_step commits does
  commit_at c = c.entry t h

-- A PARTNER, by the same tables
module _ (log : List ℕ) (j t p : ℕ) {first last : List ℕ} (b : FirstSteps log 1 first) (c : FirstSteps log 4 last) (t_in : t ≤ transactions) (p_in : p ≤ transactions) where
  pub not_yet : j ≤ get_or last p 0 → partner log j t p ≡ false
  unfolding partner
  not_yet h = and_no_left _ (and_no_right _ (→not_below (rw (commit_at log p p_in c) at h)))

  pub long_before : get_or last p 0 ≤ get_or first t 0 → partner log j t p ≡ false
  unfolding partner overlap
  long_before h = and_no_right _ (and_no_left _ (→not_below (rw (commit_at log p p_in c, begin_at log t t_in b) at h)))

  pub overlapping : get_or last p 0 < j → get_or first t 0 < get_or last p 0 → committed log p ≡ true → begin_step log p < commit_step log t → partner log j t p ≡ true
  unfolding partner overlap snapshot_step
  overlapping h k q l = →and (→and q (→below (rw (commit_at log p p_in c) at h))) (→and (→below (rw (commit_at log p p_in c, begin_at log t t_in b) at k)) (→below l))

-- THE VERDICT
module _ (log : List ℕ) where
  wrong_commit_kind : (j : ℕ) → wrong_commit transactions log j ≡ true → kind log j ≡ 4
  unfolding wrong_commit
  wrong_commit_kind j h = let r = some→ h in commit_of log j r.0 r.2

  -- k is the lowest wrong read
  module _ (k : ℕ) (read : k ≡ lowest (steps log) (wrong_read log)) where
    none_yet : {j : ℕ} → ((i : ℕ) → i < k → i < j → wrong_commit transactions log i ≡ false) → (i : ℕ) → i < k → i < j → wrong_step transactions log i ≡ false
    unfolding wrong_step
    none_yet none i h l = or_false (below_lowest (steps log) (wrong_read log) i (omega arith)) ∙ none i h l

    -- there is no wrong commit below it
    module _ (no_clash : FirstClash log k None) where
      fine : (i : ℕ) → i < k → wrong_step transactions log i ≡ false
      fine i h = none_yet {j = k} (λ i h l. none→ _ no_clash i h) i h h

      pub read_first : {w : Writer} → k < steps log → w ≡ wanted log k → snapshot_verdict transactions log ≡ Read k w
      unfolding snapshot_verdict wrong_step snapshot_fault
      read_first n v =
          let w : wrong_read log k ≡ true = rw read (lowest_is {n = steps log} (wrong_read log) (lowest_passes (wrong_read log) (omega arith))).1 in
          let s : wrong_step transactions log k ≡ true = →or_left _ w in
          let e : lowest (steps log) (wrong_step transactions log) ≡ k = lowest_at (wrong_step transactions log) k n s fine in
          provided_true _ _ (→some _ k n s) ∙ ap (snapshot_fault transactions log) e ∙ provided_true _ _ w ∙ ap (Read k) (sym v)

      pub all_right : steps log ≤ k → snapshot_verdict transactions log ≡ Yes
      unfolding snapshot_verdict
      all_right n = provided_false _ _ (→none _ (λ (i : ℕ) (l : i < steps log). fine i (omega arith)))

    -- j is the lowest wrong commit below it, with its partner
    pub write_first : (c : Clash) → FirstClash log k (Some c) → snapshot_verdict transactions log ≡ Write c.step c.partner
    unfolding snapshot_verdict wrong_step snapshot_fault
    write_first clash found =
        let j = clash.step in
        let f : j ≡ lowest k (wrong_commit transactions log) = found.1 in
        let n : j < steps log = omega (arith, found.0, lowest_bound {n = steps log} (wrong_read log)) in
        let w : wrong_commit transactions log j ≡ true = rw f (lowest_is {n = k} (wrong_commit transactions log) (lowest_passes (wrong_commit transactions log) (omega (arith, found.0)))).1 in
        let s : wrong_step transactions log j ≡ true = →or_right _ w in
        let c : kind log j ≡ 4 = wrong_commit_kind j w in
        let g : wrong_read log j ≡ false = not_wrong log j (other_kind log j (λ (q : kind log j ≡ 2). omega arith)) in
        let none : (i : ℕ) → i < k → i < j → wrong_commit transactions log i ≡ false = λ i h l. below_lowest k (wrong_commit transactions log) i (omega arith) in
        let e : lowest (steps log) (wrong_step transactions log) ≡ j = lowest_at (wrong_step transactions log) j n s (λ (i : ℕ) (l : i < j). none_yet {j = j} none i (omega (arith, found.0)) l) in
        provided_true _ _ (→some _ j n s) ∙ ap (snapshot_fault transactions log) e ∙ provided_false _ _ g ∙ ap (Write j) (sym found.2)

-- a log without steps has nothing wrong
pub none_wrong : (log : List ℕ) → steps log ≡ 0 → snapshot_verdict transactions log ≡ Yes
unfolding snapshot_verdict some
none_wrong log e = provided_false _ _ (ap (λ (n : ℕ). some n (wrong_step transactions log)) e)
