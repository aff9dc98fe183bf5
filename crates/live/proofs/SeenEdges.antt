-- While no breach came, a version's writer sees the version before it, and the version edges are read off what each transaction sees.
use mathlib.Core.Path.{◌≡◌, refl, sym, ap, subst, ◌∙◌}
use mathlib.Core.Bool.{Bool, true, false}
use mathlib.Core.Logic.{◌⊎◌, inl, inr, ⊎_elim}
use mathlib.Core.List.{List}
use Prim.Native.Nat.{ℕ, suc, ◌≤◌, ◌<◌}
use native.Mathlib.Omega.{arith}
use Rattle.words.specs.Tests.{◌is◌, ◌below◌, ◌upto◌, ◌and◌, ◌or◌, provided◌then◌else◌, some, lowest}
use Rattle.words.proofs.Truth.{decide, not_both, to_false, same_test, and→, →and, or→, →or_left, →or_right, fails→, →fails, is→, →is, isnt→, →isnt, below→, →below, not_below→, upto→, →upto, provided_true, provided_false, some→, →some, none→, lowest_is, lowest_at, lowest_passes, lowest_le}
use Rattle.verdict.specs.Limits.{objects}
use Rattle.verdict.specs.Log.{steps, kind, tx, obj, src, begins, reads, writes, begun, wrote, commits, committed, writer, begin_step, commit_step, commits_writer}
use Rattle.verdict.specs.Clean.{judged}
use Rattle.verdict.specs.Snapshot.{wrong_commit}
use Rattle.verdict.specs.Dependency.{some_dependency}
use Rattle.verdict.specs.Version.{versions_from, next_commit, next_version, writer_to_next, source_to_reader, reader_to_next, version_on, version_edge}
use Rattle.verdict.proofs.Versions.{share, versions_from_zero, versions_from_other}
use Rattle.live.specs.Breach.{misread, breached}
use Rattle.live.specs.Inner.Seen.{last_writer, seen, source_wanted, reads_first, edge_from_seen, edge_to_replacer, seen_edge}
use Rattle.live.proofs.Grows.{begin_before, wanted_is}
use Rattle.live.specs.Inner.Accepted.{Accepted}
use Rattle.live.proofs.Accepted.{commit_step_is, commit_step_at, tx_at, kind_at, committed_range, commit_injective, begins_first, begun_committed}
use Rattle.live.proofs.LastWriter.{Last, None, commits_writer→, commit_committed, writer_commits, last_cases, misread_wanted}
use Rattle.live.proofs.Breaches.{→clash}

module _ {most : ℕ} {log : List ℕ} (ok : Accepted most log) where
  -- no begin is a commit
  pub begin_no_commit : (t z : ℕ) → begun log (steps log) t ≡ true → committed log z ≡ true → commit_step log z ≡ begin_step log t → ⊥
  unfolding begun begin_step begins
  begin_no_commit t z b c e =
      let r = lowest_is (begins log t) b in
      let k : kind log (lowest (steps log) (begins log t)) ≡ 1 = is→ (and→ r.1).0 in
      let l : kind log (commit_step log z) ≡ 4 = kind_at ok z c in
      let m : kind log (commit_step log z) ≡ 1 = rw e k in
      omega arith

  -- WHAT t SEES
  pub seen_cases : (t : ℕ) → begun log (steps log) t ≡ true → (x : ℕ) → Last log x (begin_step log t) (seen log t x) ⊎ ((seen log t x ≡ 0) × None log x (begin_step log t))
  unfolding seen
  seen_cases t b x = let l : begin_step log t < steps log = begin_before log (steps log) t (omega arith) b in last_cases ok x (begin_step log t) (omega arith)

  -- the last writer of now is the one seen, or has committed since
  pub last_since : (t : ℕ) → begun log (steps log) t ≡ true → (x : ℕ) → (last_writer log (steps log) x ≡ seen log t x → ⊥)
      → (v : ℕ) × (committed log v ≡ true) × (writer log x v ≡ true) × (begin_step log t < commit_step log v)
  last_since t b x n = go (last_cases ok x (steps log) (omega arith)) (seen_cases t b x) n
    where
      early : begin_step log t < steps log
      early = begin_before log (steps log) t (omega arith) b

      go : {v w : ℕ} → Last log x (steps log) v ⊎ ((v ≡ 0) × None log x (steps log)) → Last log x (begin_step log t) w ⊎ ((w ≡ 0) × None log x (begin_step log t)) → (v ≡ w → ⊥)
          → (v : ℕ) × (committed log v ≡ true) × (writer log x v ≡ true) × (begin_step log t < commit_step log v)
      go {v} {w} (inl r) q d = late (decide (begin_step log t below commit_step log v)) q
        where
          late : ((begin_step log t below commit_step log v) ≡ true) ⊎ ((begin_step log t below commit_step log v) ≡ false) → Last log x (begin_step log t) w ⊎ ((w ≡ 0) × None log x (begin_step log t))
              → (v : ℕ) × (committed log v ≡ true) × (writer log x v ≡ true) × (begin_step log t < commit_step log v)
          late (inl l) q = (v, r.commit, r.write, below→ l)
          late (inr l) q =
              let f : commit_step log v < begin_step log t = (let e : commit_step log v ≡ begin_step log t → ⊥ = begin_no_commit t v b r.commit in omega (arith, not_below→ l)) in
              absurd (⊎_elim (λ (s : Last log x (begin_step log t) w).
              let i : commit_step log v ≤ commit_step log w = s.latest v r.commit r.write f in
              let j : commit_step log w ≤ commit_step log v = r.latest w s.commit s.write (commit_step_is ok w s.commit).0 in
              d (commit_injective ok v w r.commit s.commit (omega arith)))
              (λ (s : (w ≡ 0) × None log x (begin_step log t)). s.1 v r.commit r.write f) q)
      go (inr r) (inl s) d = absurd (r.1 _ s.commit s.write (commit_step_is ok _ s.commit).0)
      go (inr r) (inr s) d = absurd (d (r.0 ∙ sym s.0))

  pub since_last : (t : ℕ) → begun log (steps log) t ≡ true → (x v : ℕ) → committed log v ≡ true → writer log x v ≡ true → begin_step log t < commit_step log v → last_writer log (steps log) x ≡ seen log t x → ⊥
  since_last t b x v c w l e = go (last_cases ok x (steps log) (omega arith)) (seen_cases t b x) e
    where
      go : {u s : ℕ} → Last log x (steps log) u ⊎ ((u ≡ 0) × None log x (steps log)) → Last log x (begin_step log t) s ⊎ ((s ≡ 0) × None log x (begin_step log t)) → u ≡ s → ⊥
      go {u} {s} (inl r) (inl q) e =
          let i : commit_step log v ≤ commit_step log u = r.latest v c w (commit_step_is ok v c).0 in
          let j : commit_step log s < begin_step log t = q.early in
          let z : commit_step log u ≡ commit_step log s = ap (commit_step log) e in
          omega arith
      go {u} (inl r) (inr q) e = let g : 1 ≤ u = (committed_range ok u r.commit).0 in let z : u ≡ 0 = e ∙ q.0 in omega arith
      go (inr r) q e = r.1 v c w (commit_step_is ok v c).0

  -- THE NEXT VERSION
  record Next (x v u : ℕ) : Type 0 where
    commit : committed log u ≡ true
    write : writer log x u ≡ true
    later : versions_from log v ≤ commit_step log u
    least : (z : ℕ) → committed log z ≡ true → writer log x z ≡ true → versions_from log v ≤ commit_step log z → commit_step log u ≤ commit_step log z

  next→ : (x v u : ℕ) → next_version log x v u ≡ true → Next x v u
  unfolding next_version next_commit
  next→ x v u h = subst (Next x v) (is→ (and→ h).1) found
    where
      try : ℕ → Bool
      try j = versions_from log v upto j and commits_writer log x j

      j : ℕ
      j = lowest (steps log) try

      found_at : (j < steps log) × (try j ≡ true) × ((i : ℕ) → i < j → try i ≡ false)
      found_at = lowest_is try (lowest_passes try (below→ (and→ h).0))

      here : (commits log (tx log j) j ≡ true) × (writer log x (tx log j) ≡ true)
      here = commits_writer→ log x j (and→ found_at.1).1

      e : commit_step log (tx log j) ≡ j
      e = commit_step_at ok (tx log j) j found_at.0 here.0

      found : Next x v (tx log j)
      found =
          record {
            commit = commit_committed log (tx log j) j found_at.0 here.0;
            write = here.1;
            later = rw e (upto→ (and→ found_at.1).0);
            least = λ z c w l. rw e (lowest_le try (commit_step log z) (commit_step_is ok z c).0 (→and (→upto l) (writer_commits ok x z c w)));
          }

  →next : (x v u : ℕ) → Next x v u → next_version log x v u ≡ true
  unfolding next_version next_commit
  →next x v u r = rw at_commit (→and (→below (commit_step_is ok u r.commit).0) (→is (tx_at ok u r.commit)))
    where
      try : ℕ → Bool
      try j = versions_from log v upto j and commits_writer log x j

      at_commit : lowest (steps log) (λ j. versions_from log v upto j and commits_writer log x j) ≡ commit_step log u
      at_commit =
          lowest_at try (commit_step log u) (commit_step_is ok u r.commit).0 (→and (→upto r.later) (writer_commits ok x u r.commit r.write))
          (λ (i : ℕ) (l : i < commit_step log u). to_false _ (λ q.
          let w = commits_writer→ log x i (and→ q).1 in
          let s : commit_step log u < steps log = (commit_step_is ok u r.commit).0 in
          let m : i < steps log = omega arith in
          let e : commit_step log (tx log i) ≡ i = commit_step_at ok (tx log i) i m w.0 in
          let z : commit_step log u ≤ commit_step log (tx log i) = r.least (tx log i) (commit_committed log (tx log i) i m w.0) w.1 (rw e (upto→ (and→ q).0)) in
          omega arith))

  -- WHILE NO BREACH CAME
  module _ (fine : breached most log ≡ false) where
    -- of two writers of one object the earlier committed before the later began
    pub apart : (x a b : ℕ) → committed log a ≡ true → committed log b ≡ true → writer log x a ≡ true → writer log x b ≡ true → commit_step log a < commit_step log b → commit_step log a < begin_step log b
    unfolding breached wrong_commit
    apart x a b p q v w l = go (decide (begin_step log b below commit_step log a))
      where
        go : ((begin_step log b below commit_step log a) ≡ true) ⊎ ((begin_step log b below commit_step log a) ≡ false) → commit_step log a < begin_step log b
        go (inr n) = let d : commit_step log a ≡ begin_step log b → ⊥ = begin_no_commit b a (begun_committed ok b q) p in omega (arith, not_below→ n)
        go (inl n) =
            let s = (commit_step_is ok b q).0 in
            let e : tx log (commit_step log b) ≡ b = tx_at ok b q in
            let f : begin_step log a < commit_step log a = begins_first ok a p in
            let r : a ≤ most = (committed_range ok a p).1 in
            absurd (not_both (→some _ (commit_step log b) s (→or_right _ (→some _ a (omega arith) (→clash (record {
              is_commit = kind_at ok b q;
              partner = p;
              earlier = l;
              begun_before = rw e (below→ n);
              began = rw e (omega arith);
              both_write = rw e (share log x b a w v);
            }))))) fine)

    -- v is 0, or a committed writer of x
    abbrev VersionOf : ℕ → ℕ → Type 0
    VersionOf x v = (v ≡ 0) ⊎ ((committed log v ≡ true) × (writer log x v ≡ true))

    seen_version : (t : ℕ) → begun log (steps log) t ≡ true → (x : ℕ) → VersionOf x (seen log t x)
    seen_version t b x = ⊎_elim (λ r. inr (r.commit, r.write)) (λ r. inl r.0) (seen_cases t b x)

    -- the writer of the next version after v's sees v's
    next_sees : (x v b : ℕ) → VersionOf x v → Next x v b → seen log b x ≡ v
    next_sees x v b is_version r = go is_version (seen_cases b (begun_committed ok b r.commit) x)
      where
        first : begin_step log b < commit_step log b
        first = begins_first ok b r.commit

        go : {s : ℕ} → VersionOf x v → Last log x (begin_step log b) s ⊎ ((s ≡ 0) × None log x (begin_step log b)) → s ≡ v
        go (inl z) (inr q) = q.0 ∙ sym z
        go {s} (inl z) (inl q) =
            let e : versions_from log v ≡ 0 = rw z (versions_from_zero log) in
            let l : commit_step log b ≤ commit_step log s = r.least s q.commit q.write (omega arith) in
            let k : commit_step log s < begin_step log b = q.early in
            absurd (omega (arith, first))
        go {s} (inr p) q = late q
          where
            e : versions_from log v ≡ suc (commit_step log v)
            e = versions_from_other log v (λ (z : v ≡ 0). omega (arith, (committed_range ok v p.0).0))

            before : commit_step log v < begin_step log b
            before = apart x v b p.0 r.commit p.1 r.write (omega (arith, e, r.later))

            late : Last log x (begin_step log b) s ⊎ ((s ≡ 0) × None log x (begin_step log b)) → s ≡ v
            late (inr q) = absurd (q.1 v p.0 p.1 before)
            late (inl q) =
                let i : commit_step log v ≤ commit_step log s = q.latest v p.0 p.1 before in
                let k : commit_step log s < begin_step log b = q.early in
                let n : commit_step log v < commit_step log s → ⊥ = λ m. (let l : commit_step log b ≤ commit_step log s = r.least s q.commit q.write (omega (arith, e)) in omega (arith, first)) in
                commit_injective ok s v q.commit p.0 (omega arith)

    -- .. and whoever wrote a version and sees v's wrote the next one
    sees_next : (x b : ℕ) → committed log b ≡ true → writer log x b ≡ true → Next x (seen log b x) b
    sees_next x b c w = go (seen_cases b (begun_committed ok b c) x)
      where
        first : begin_step log b < commit_step log b
        first = begins_first ok b c

        go : {v : ℕ} → Last log x (begin_step log b) v ⊎ ((v ≡ 0) × None log x (begin_step log b)) → Next x v b
        go {v} q = record { commit = c; write = w; later = later q; least = λ z d y l. least q z d y l }
          where
            from : Last log x (begin_step log b) v → versions_from log v ≡ suc (commit_step log v)
            from r = versions_from_other log v (λ (z : v ≡ 0). omega (arith, (committed_range ok v r.commit).0))

            later : Last log x (begin_step log b) v ⊎ ((v ≡ 0) × None log x (begin_step log b)) → versions_from log v ≤ commit_step log b
            later (inl r) = let k : commit_step log v < begin_step log b = r.early in omega (arith, from r, first)
            later (inr r) = let e : versions_from log v ≡ 0 = rw r.0 (versions_from_zero log) in omega arith

            least : Last log x (begin_step log b) v ⊎ ((v ≡ 0) × None log x (begin_step log b)) → (z : ℕ) → committed log z ≡ true → writer log x z ≡ true → versions_from log v ≤ commit_step log z → commit_step log b ≤ commit_step log z
            least q z d y l = pick (decide (commit_step log z below commit_step log b)) q
              where
                pick : ((commit_step log z below commit_step log b) ≡ true) ⊎ ((commit_step log z below commit_step log b) ≡ false) → Last log x (begin_step log b) v ⊎ ((v ≡ 0) × None log x (begin_step log b)) → commit_step log b ≤ commit_step log z
                pick (inr n) q = not_below→ n
                pick (inl n) (inr r) = absurd (r.1 z d y (apart x z b d c y w (below→ n)))
                pick (inl n) (inl r) = let k : commit_step log z ≤ commit_step log v = r.latest z d y (apart x z b d c y w (below→ n)) in absurd (omega (arith, from r))

    -- WHAT IS READ
    pub right_read : (i : ℕ) → i < steps log → judged log i ≡ true → src log i ≡ source_wanted log i
    unfolding breached
    right_read i h j =
        let m : misread log i ≡ false = to_false _ (λ m. not_both (→or_left _ m) (none→ _ fine i h)) in
        ⊎_elim (λ (k : (src log i is source_wanted log i) ≡ true). is→ k) (λ (k : (src log i is source_wanted log i) ≡ false). absurd (not_both (misread_wanted ok i h ∙ →and j (→fails k)) m)) (decide (src log i is source_wanted log i))

    -- a judged read names the reader after its own write, and else what the reader sees
    pub record Named (i : ℕ) : Type 0 where
      pub kind_is : kind log i ≡ 2
      pub reader : committed log (tx log i) ≡ true
      pub names : ((wrote log i (tx log i) (obj log i) ≡ true) × (src log i ≡ tx log i)) ⊎ ((reads_first log (obj log i) (tx log i) ≡ true) × (src log i ≡ seen log (tx log i) (obj log i)))

    pub named : (i : ℕ) → i < steps log → judged log i ≡ true → Named i
    unfolding judged reads reads_first seen
    named i h j = record { kind_is = is→ (and→ j).0; reader = (and→ j).1; names = go (decide (wrote log i (tx log i) (obj log i))) }
      where
        e : src log i ≡ (provided wrote log i (tx log i) (obj log i) then tx log i else seen log (tx log i) (obj log i))
        e = right_read i h (unfold judged reads in j) ∙ wanted_is log i

        go : (wrote log i (tx log i) (obj log i) ≡ true) ⊎ (wrote log i (tx log i) (obj log i) ≡ false)
            → ((wrote log i (tx log i) (obj log i) ≡ true) × (src log i ≡ tx log i)) ⊎ ((reads_first log (obj log i) (tx log i) ≡ true) × (src log i ≡ seen log (tx log i) (obj log i)))
        go (inl w) = inl (w, e ∙ provided_true _ _ w)
        go (inr w) = inr (→some _ i h (→and (→and (→and (and→ j).0 (→is refl)) (→is refl)) (→fails w)), e ∙ provided_false _ _ w)

    -- a first read of one that committed names what the reader sees
    first_read : (x t : ℕ) → committed log t ≡ true → reads_first log x t ≡ true → (i : ℕ) × (i < steps log) × (judged log i ≡ true) × (obj log i ≡ x) × (tx log i ≡ t) × (src log i ≡ seen log t x)
    unfolding reads_first judged seen
    first_read x t c h =
        let r = some→ h in
        let i : ℕ = r.0 in
        let a = and→ r.2 in
        let b = and→ a.0 in
        let d = and→ b.0 in
        let e : tx log i ≡ t = is→ d.1 in
        let f : obj log i ≡ x = is→ b.1 in
        let j : judged log i ≡ true = →and d.0 (rw e c) in
        (i, r.1, j, f, e, right_read i r.1 j ∙ wanted_is log i ∙ provided_false _ _ (rw (e, f) (fails→ a.1)) ∙ rw (e, f) refl)

    wrote_writer : (i t x : ℕ) → i ≤ steps log → wrote log i t x ≡ true → writer log x t ≡ true
    unfolding wrote writer
    wrote_writer i t x h w = let r = some→ w in →some _ r.0 (omega (arith, r.1)) r.2

    writer_object : (x t : ℕ) → writer log x t ≡ true → x < objects
    unfolding writer writes
    writer_object x t w = let r = some→ w in let a = and→ r.2 in rw (is→ {m = obj log r.0} {n = x} a.1) at (ok.object r.0 r.1 (inr (is→ (and→ a.0).0)))

    -- THE EDGES
    record On (a b : ℕ) : Type 0 where
      from : committed log a ≡ true
      to : committed log b ≡ true
      on : ℕ
      object : on < objects
      leads : (edge_from_seen log a b on or edge_to_replacer log a b on) ≡ true

    from_seen : (a b x : ℕ) → committed log b ≡ true → (writer log x b or reads_first log x b) ≡ true → (a ≡ 0 → ⊥) → seen log b x ≡ a → (committed log a ≡ true) × (edge_from_seen log a b x ≡ true)
    unfolding edge_from_seen
    from_seen a b x c t n e =
        ⊎_elim (λ z. absurd (n (sym e ∙ z))) (λ (v : (committed log (seen log b x) ≡ true) × (writer log x (seen log b x) ≡ true)). (subst (λ (u : ℕ). committed log u ≡ true) e v.0, →and (→and (subst (λ (u : ℕ). writer log x u ≡ true) e v.1) t) (→is e)))
        (seen_version b (begun_committed ok b c) x)

    to_replacer : (a b x : ℕ) → reads_first log x a ≡ true → writer log x b ≡ true → seen log a x ≡ seen log b x → edge_to_replacer log a b x ≡ true
    unfolding edge_to_replacer
    to_replacer a b x r w e = →and (→and r w) (→is e)

    next_on : (a b x : ℕ) → (a ≡ 0 → ⊥) → committed log a ≡ true → writer log x a ≡ true → next_version log x a b ≡ true → On a b
    next_on a b x n c w h =
        let r = next→ x a b h in
        let s = from_seen a b x r.commit (→or_left _ r.write) n (next_sees x a b (inr (c, w)) r) in
        record { from = c; to = r.commit; on = x; object = writer_object x a w; leads = →or_left _ s.1 }

    on→ : (a b : ℕ) → (a ≡ b → ⊥) → (a ≡ 0 → ⊥) → (x k : ℕ) → version_on log a b x k ≡ true → On a b
    unfolding version_on writer_to_next source_to_reader reader_to_next
    on→ a b d n x k h = ⊎_elim (λ q. ⊎_elim (λ p. ww (and→ p).1) (λ p. wr (some→ (and→ p).1)) (or→ q)) (λ p. replaced (some→ (and→ p).1)) (or→ h)
      where
        ww : (committed log a and writer log x a and next_version log x a b) ≡ true → On a b
        ww p = let q = and→ (and→ p).0 in next_on a b x n q.0 q.1 (and→ p).1

        wr : (i : ℕ) × (i < steps log) × ((judged log i and obj log i is x and src log i is a and tx log i is b) ≡ true) → On a b
        wr r =
            let i : ℕ = r.0 in
            let p = and→ r.2 in
            let q = and→ p.0 in
            let o = and→ q.0 in
            let e : tx log i ≡ b = is→ p.1 in
            let f : src log i ≡ a = is→ q.1 in
            let m = named i r.1 o.0 in
            ⊎_elim (λ (w : (wrote log i (tx log i) (obj log i) ≡ true) × (src log i ≡ tx log i)). absurd (d (sym f ∙ w.1 ∙ e)))
            (λ (w : (reads_first log (obj log i) (tx log i) ≡ true) × (src log i ≡ seen log (tx log i) (obj log i))).
            let c : committed log b ≡ true = subst (λ (u : ℕ). committed log u ≡ true) e m.reader in
            let z : reads_first log (obj log i) b ≡ true = subst (λ (u : ℕ). reads_first log (obj log i) u ≡ true) e w.0 in
            let y : seen log b (obj log i) ≡ a = subst (λ (u : ℕ). seen log u (obj log i) ≡ a) e (sym w.1 ∙ f) in
            let s = from_seen a b (obj log i) c (→or_right _ z) n y in
            record { from = s.0; to = c; on = obj log i; object = ok.object i r.1 (inl m.kind_is); leads = →or_left _ s.1 })
            m.names

        replaced : (i : ℕ) × (i < steps log) × ((judged log i and obj log i is x and tx log i is a and next_version log x (src log i) b) ≡ true) → On a b
        replaced r =
            let i : ℕ = r.0 in
            let h : i < steps log = r.1 in
            let p = and→ r.2 in
            let q = and→ p.0 in
            let o = and→ q.0 in
            let e : tx log i ≡ a = is→ q.1 in
            let f : obj log i ≡ x = is→ o.1 in
            let m = named i r.1 o.0 in
            let c : committed log a ≡ true = subst (λ (u : ℕ). committed log u ≡ true) e m.reader in
            ⊎_elim (λ (w : (wrote log i (tx log i) (obj log i) ≡ true) × (src log i ≡ tx log i)).
            next_on a b x n c (wrote_writer i a x (omega arith) (rw (e, f) at w.0)) (subst (λ (u : ℕ). next_version log x u b ≡ true) (w.1 ∙ e) p.1))
            (λ (w : (reads_first log (obj log i) (tx log i) ≡ true) × (src log i ≡ seen log (tx log i) (obj log i))).
            let g : src log i ≡ seen log a x = w.1 ∙ rw (e, f) refl in
            let t = next→ x (seen log a x) b (subst (λ (u : ℕ). next_version log x u b ≡ true) g p.1) in
            let v = next_sees x (seen log a x) b (seen_version a (begun_committed ok a c) x) t in
            record { from = c; to = t.commit; on = x; object = writer_object x b t.write; leads = →or_right _ (to_replacer a b x (rw (e, f) at w.0) t.write (sym v)) })
            m.names

    →on : (a b x : ℕ) → committed log a ≡ true → committed log b ≡ true → (edge_from_seen log a b x or edge_to_replacer log a b x) ≡ true → some 4 (version_on log a b x) ≡ true
    unfolding edge_from_seen edge_to_replacer version_on writer_to_next source_to_reader reader_to_next
    →on a b x c d h = ⊎_elim (λ q. let p = and→ q in let r = and→ p.0 in ⊎_elim (λ w. ww r.0 w (is→ p.1)) (λ w. wr w (is→ p.1)) (or→ r.1)) (λ q. let p = and→ q in let r = and→ p.0 in replaced r.0 r.1 (is→ p.1)) (or→ h)
      where
        at : (k : ℕ) → k < 4 → version_on log a b x k ≡ true → some 4 (version_on log a b x) ≡ true
        at k l q = →some _ k l q

        ww : writer log x a ≡ true → writer log x b ≡ true → seen log b x ≡ a → some 4 (version_on log a b x) ≡ true
        ww v w e = at 1 (omega arith) (→or_left _ (→or_left _ (→and (→is refl) (→and (→and c v) (subst (λ (u : ℕ). next_version log x u b ≡ true) e (→next x (seen log b x) b (sees_next x b d w)))))))

        wr : reads_first log x b ≡ true → seen log b x ≡ a → some 4 (version_on log a b x) ≡ true
        wr w e =
            let r = first_read x b d w in
            at 2 (omega arith) (→or_left _ (→or_right _ (→and (→is refl) (→some _ r.0 r.1 (→and (→and (→and r.2 (→is r.3)) (→is (r.5 ∙ e))) (→is r.4))))))

        replaced : reads_first log x a ≡ true → writer log x b ≡ true → seen log a x ≡ seen log b x → some 4 (version_on log a b x) ≡ true
        replaced v w e =
            let r = first_read x a c v in
            at 3 (omega arith) (→or_right _ (→and (→is refl) (→some _ r.0 r.1 (→and (→and (→and r.2 (→is r.3)) (→is r.4))
            (subst (λ (u : ℕ). next_version log x u b ≡ true) (sym (r.5 ∙ e)) (→next x (seen log b x) b (sees_next x b d w)))))))

    -- the version edges of the log are those read off what is seen
    pub log_edge : (a b : ℕ) → version_edge log a b ≡ seen_edge log a b
    unfolding version_edge seen_edge some_dependency
    log_edge a b = same_test forth back
      where
        forth : version_edge log a b ≡ true → seen_edge log a b ≡ true
        forth h =
            let p = and→ h in
            let q = and→ p.0 in
            let s = and→ q.0 in
            let r = some→ p.1 in
            let u = some→ r.2 in
            let d : a ≡ b → ⊥ = isnt→ (fails→ s.0) in
            let o = on→ a b d (isnt→ (fails→ s.1)) r.0 u.0 u.2 in
            →and (→and (→and o.from o.to) (→fails (→isnt d))) (→some _ o.on o.object o.leads)

        back : seen_edge log a b ≡ true → version_edge log a b ≡ true
        back h =
            let p = and→ h in
            let q = and→ p.0 in
            let c = and→ q.0 in
            let r = some→ p.1 in
            →and (→and (→and q.1 (→fails (→isnt (λ (z : a ≡ 0). omega (arith, (committed_range ok a c.0).0))))) (→fails (→isnt (λ (z : b ≡ 0). omega (arith, (committed_range ok b c.1).0)))))
            (→some _ r.0 r.1 (→on a b r.0 c.0 c.1 r.2))
