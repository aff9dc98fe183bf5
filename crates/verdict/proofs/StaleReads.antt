-- A stale read, by the commits of its source and of the writer of the next version.
use mathlib.Core.Path.{◌≡◌, refl, sym, ap, ◌∙◌}
use mathlib.Core.Bool.{true, false}
use mathlib.Core.Logic.{◌⊎◌, inl, inr}
use mathlib.Core.List.{List}
use Prim.Native.Nat.{ℕ, suc, ◌≤◌, ◌<◌}
use native.Mathlib.Omega.{arith}
use Rattle.words.specs.Tests.{◌below◌, ◌upto◌, some, highest}
use Rattle.words.proofs.Truth.{decide, not_both, to_false, and→, →and, and_no_left, and_no_right, →fails, →not_fails, is→, →is, →isnt, upto→, →upto, not_upto→, →below, below→, not_below→, →not_below, provided_true, provided_false, →some, →none, lowest_is, lowest_none, lowest_passes, lowest_bound, lowest_some, below_lowest, highest_is, highest_none, highest_at}
use Rattle.verdict.specs.Log.{steps, tx, obj, src, commits, committed, writer, commit_step, commits_writer}
use Rattle.verdict.specs.Clean.{judged_other}
use Rattle.verdict.specs.Version.{versions_from, next_commit}
use Rattle.verdict.specs.Snapshot.{writer_number, snapshot_step, last_commit, last_committed}
use Rattle.verdict.specs.Inner.StaleReads.{stale_read}
use Rattle.verdict.specs.Inner.VersionEdges.{next_writer}
use Rattle.verdict.proofs.WellFormed.{Well}
use Rattle.verdict.proofs.JudgedReads.{is_read}
use Rattle.verdict.proofs.Versions.{candidate, versions_from_zero, versions_from_other, commit_step_is, commit_step_at, tx_at}
use Rattle.verdict.proofs.SnapshotLaws.{last_number, begins_within}

-- whether t committed, by its commit step
module _ (log : List ℕ) (t : ℕ) where
  pub has_committed : commit_step log t < steps log → committed log t ≡ true
  unfolding committed commit_step
  has_committed h = lowest_passes (commits log t) h

  pub not_committed : steps log ≤ commit_step log t → committed log t ≡ false
  unfolding committed commit_step
  not_committed h = lowest_some (commits log t) h

module _ {most : ℕ} (log : List ℕ) (well : Well most log) (x : ℕ) where
  -- a step that commits a writer of x is the commit step of its transaction
  commit_here : (j : ℕ) → j < steps log → commits_writer log x j ≡ true → commit_step log (tx log j) ≡ j
  unfolding commits_writer commits
  commit_here j h c = commit_step_at log well (tx log j) j h (→and (and→ c).0 (→is refl))

  -- nobody is numbered 0
  none_zero : commit_step log 0 ≡ steps log
  unfolding commit_step commits
  none_zero =
      lowest_none (commits log 0)
      (→none (commits log 0) (λ (i : ℕ) (h : i < steps log). to_false _ (λ q. let e : tx log i ≡ 0 = is→ (and→ q).1 in let z : 1 ≤ tx log i = (well.range i h).0 in omega arith)))

  module _ (v : ℕ) where
    next_candidate : next_commit log x v < steps log → (versions_from log v ≤ next_commit log x v) × (commits_writer log x (next_commit log x v) ≡ true)
    unfolding next_commit candidate
    next_candidate h = let r = and→ (lowest_is {n = steps log} (candidate log x v) (lowest_passes (candidate log x v) h)).1 in (upto→ r.0, r.1)

    -- between v's version and the next one nobody commits a version
    none_between : (i : ℕ) → versions_from log v ≤ i → i < next_commit log x v → commits_writer log x i ≡ false
    unfolding next_commit candidate
    none_between i h l = to_false _ (λ q. not_both (→and (→upto h) q) (below_lowest (steps log) (candidate log x v) i l))

    -- the writer of the next version commits where the next version is committed
    next_commits : commit_step log (next_writer log x v) ≡ next_commit log x v
    unfolding next_writer
    next_commits = go (decide (next_commit log x v below steps log))
      where
        bound : next_commit log x v ≤ steps log
        bound = unfold next_commit candidate in (lowest_bound {n = steps log} (candidate log x v))

        go : ((next_commit log x v below steps log) ≡ true) ⊎ ((next_commit log x v below steps log) ≡ false) → commit_step log (next_writer log x v) ≡ next_commit log x v
        go (inl k) = ap (commit_step log) (provided_true _ _ k) ∙ commit_here (next_commit log x v) (below→ k) (next_candidate (below→ k)).1
        go (inr k) = ap (commit_step log) (provided_false _ _ k) ∙ none_zero ∙ omega (arith, bound, not_below→ k)

  -- who committed last before b
  module _ (b : ℕ) (within : b ≤ steps log) where
    last_found : some b (commits_writer log x) ≡ true → writer_number (last_committed log b x) ≡ tx log (highest b (commits_writer log x))
    unfolding last_commit
    last_found h = last_number log x b ∙ provided_true _ _ (→below (highest_is b (commits_writer log x) h).0)

    nobody : some b (commits_writer log x) ≡ false → writer_number (last_committed log b x) ≡ 0
    unfolding last_commit
    nobody h = let e : highest b (commits_writer log x) ≡ b = highest_none b (commits_writer log x) h in last_number log x b ∙ provided_false _ _ (→not_below (omega arith))

    -- where the next version after s's is committed before b, s is not the last
    overtaken : (s : ℕ) → next_commit log x s < b → s ≡ writer_number (last_committed log b x) → ⊥
    overtaken s h e =
        let n = next_candidate s (omega arith) in
        let c : commits_writer log x (next_commit log x s) ≡ true = n.1 in
        let any : some b (commits_writer log x) ≡ true = →some _ (next_commit log x s) h c in
        let l = highest_is b (commits_writer log x) any in
        let last : ℕ = highest b (commits_writer log x) in
        let in_log : last < steps log = omega (arith, l.0) in
        let t : s ≡ tx log last = e ∙ last_found any in
        let z : commit_step log s ≡ last = ap (commit_step log) t ∙ commit_here last in_log l.1 in
        let f : versions_from log s ≡ suc (commit_step log s) = versions_from_other log s (λ (q : s ≡ 0). omega (arith, (well.range last in_log).0)) in
        not_both c (l.2 (next_commit log x s) (omega (arith, n.0)) h)

    -- nor where s has not committed
    too_late : (s : ℕ) → (s ≡ 0 → ⊥) → b ≤ commit_step log s → s ≡ writer_number (last_committed log b x) → ⊥
    too_late s n h e = go (decide (some b (commits_writer log x)))
      where
        go : (some b (commits_writer log x) ≡ true) ⊎ (some b (commits_writer log x) ≡ false) → ⊥
        go (inl any) =
            let l = highest_is b (commits_writer log x) any in
            let last : ℕ = highest b (commits_writer log x) in
            let t : s ≡ tx log last = e ∙ last_found any in
            let z : commit_step log s ≡ last = ap (commit_step log) t ∙ commit_here last (omega (arith, l.0)) l.1 in
            omega (arith, l.0)
        go (inr none) = n (e ∙ nobody none)

    -- else s is the last: the store, where no version is committed before b
    store_last : b ≤ next_commit log x 0 → writer_number (last_committed log b x) ≡ 0
    store_last h = nobody (→none _ (λ (i : ℕ) (l : i < b). none_between 0 i (omega (arith, versions_from_zero log)) (omega arith)))

    -- .. and a writer that has committed
    source_last : (s : ℕ) → (s ≡ 0 → ⊥) → writer log x s ≡ true → commit_step log s < b → b ≤ next_commit log x s → writer_number (last_committed log b x) ≡ s
    source_last s n w h k =
        let f : versions_from log s ≡ suc (commit_step log s) = versions_from_other log s n in
        let e : highest b (commits_writer log x) ≡ commit_step log s =
        highest_at b (commits_writer log x) (commit_step log s) h here (λ (i : ℕ) (a : commit_step log s < i) (l : i < b). none_between s i (omega arith) (omega arith))
        in
        last_found (→some _ (commit_step log s) h here) ∙ ap (tx log) e ∙ tx_at log well s s_committed
      where
        s_committed : committed log s ≡ true
        s_committed = has_committed log s (omega arith)

        here : commits_writer log x (commit_step log s) ≡ true
        here = unfold commits_writer commits in (→and (and→ (commit_step_is log well s s_committed).1).0 (rw (tx_at log well s s_committed) w))

pub not_stale : (log : List ℕ) (i : ℕ) → judged_other log i ≡ false → stale_read log i ≡ false
unfolding stale_read
not_stale log i j = and_no_left _ j

-- A JUDGED READ FROM ANOTHER
module _ {most : ℕ} (log : List ℕ) (well : Well most log) (i : ℕ) (judged : judged_other log i ≡ true) where
  -- the number of what it should have found
  should : ℕ
  should = writer_number (last_committed log (snapshot_step log (tx log i)) (obj log i))

  names_another : (src log i ≡ should → ⊥) → stale_read log i ≡ true
  unfolding should stale_read
  names_another f = →and judged (→fails (→isnt f))

  names_it : should ≡ src log i → stale_read log i ≡ false
  unfolding should stale_read
  names_it e = and_no_right _ (→not_fails (→is (sym e)))

  -- its transaction begins at b, and the writer of the next version commits at n
  module _ {b n : ℕ} (begin_is : b ≡ snapshot_step log (tx log i)) (next_is : n ≡ commit_step log (next_writer log (obj log i) (src log i))) where
    next_at : n ≡ next_commit log (obj log i) (src log i)
    next_at = next_is ∙ next_commits log well (obj log i) (src log i)

    pub next_committed : n < b → stale_read log i ≡ true
    unfolding should
    next_committed h = names_another (overtaken log well (obj log i) _ (begins_within log (tx log i)) (src log i) (rw (next_at, begin_is) at h))

    pub store_read : b ≤ n → src log i ≡ 0 → stale_read log i ≡ false
    unfolding should
    store_read h e = names_it (store_last log well (obj log i) _ (begins_within log (tx log i)) (rw (next_at, begin_is, e) at h) ∙ sym e)

    -- .. and the source at c
    pub source_read : {c : ℕ} → c ≡ commit_step log (src log i) → i < steps log → b ≤ n → (src log i ≡ 0 → ⊥) → (b upto c) ≡ stale_read log i
    unfolding should
    source_read {c} f l h k = go (decide (b upto c))
      where
        go : ((b upto c) ≡ true) ⊎ ((b upto c) ≡ false) → (b upto c) ≡ stale_read log i
        go (inl q) = q ∙ sym (names_another (too_late log well (obj log i) _ (begins_within log (tx log i)) (src log i) k (rw (begin_is, f) at (upto→ q))))
        go (inr q) =
            q ∙ sym (names_it (source_last log well (obj log i) _ (begins_within log (tx log i)) (src log i) k (well.source i l (is_read log i judged) k) (rw (begin_is, f) at (not_upto→ q)) (rw (next_at, begin_is) at h)))
