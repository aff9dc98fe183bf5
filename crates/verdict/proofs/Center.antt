-- The centre: a serial order explains a well_formed, clean log exactly when it keeps every version edge.
use mathlib.Core.Path.{◌≡◌, refl, sym, ap, subst, ◌∙◌}
use mathlib.Core.Bool.{true, false}
use mathlib.Core.Logic.{◌⊎◌, inl, inr, ⊎_elim, ◌↔◌}
use mathlib.Core.List.{List}
use Prim.Native.Nat.{ℕ, zero, suc, ◌+◌, ◌≤◌, ◌<◌}
use native.Mathlib.Omega.{arith}
use Rattle.words.specs.Tests.{◌is◌, ◌below◌, ◌or◌}
use Rattle.words.specs.Lists.{member, distinct, before}
use Rattle.graph.specs.Order.{keeps}
use Rattle.verdict.specs.Log.{steps, kind, tx, obj, src, reads, writes, committed, writer, commit_step}
use Rattle.verdict.specs.Clean.{judged, judged_other, is_clean}
use Rattle.verdict.specs.Version.{versions_from, next_version, version_edge}
use Rattle.verdict.specs.Inner.VersionEdges.{from_writer, from_source, from_reader, plain_version}
use Rattle.verdict.specs.Replay.{serial, finds, reads_right, writers_in_order, explains_loosely, explains}
use Rattle.words.proofs.Truth.{decide, and→, →and, or→, →or_left, →or_right, fails→, →fails, implies→, →implies, is→, →is, isnt→, →isnt, below→, →below, not_below→, some→, →some, every→, →every}
use Rattle.words.proofs.Places.{all→, →all, before_left, before_irreflexive, before_trans, before_asym, before_total}
use Rattle.verdict.proofs.Cleanly.{source_committed}
use Rattle.verdict.proofs.WellFormed.{Well}
use Rattle.verdict.proofs.Versions.{not_zero, Wrote, Following, versions_from_zero, versions_from_other, share, shared, commit_injective, next→, →next}
use Rattle.verdict.proofs.Serial.{serial_distinct, serial_committed, serial_member}
use Rattle.verdict.proofs.Replayed.{Last, None, finds_cases}
use Rattle.verdict.proofs.Dependencies.{plain_version_edge}

module _ {most : ℕ} (log : List ℕ) (well : Well most log) (w : List ℕ) (ser : serial most log w ≡ true) where
  different : distinct w ≡ true
  different = serial_distinct log well w ser

  of_member : (t : ℕ) → member t w ≡ true → committed log t ≡ true
  of_member = serial_committed log well w ser

  is_member : (t : ℕ) → committed log t ≡ true → member t w ≡ true
  is_member = serial_member log well w ser

  -- a judged read, taken apart
  pub record Read (i : ℕ) : Type 0 where
    pub inside : i < steps log
    pub kind_2 : kind log i ≡ 2
    pub reader : committed log (tx log i) ≡ true

  read→ : (i : ℕ) → i < steps log → judged log i ≡ true → Read i
  unfolding judged reads
  read→ i h j = record { inside = h; kind_2 = is→ (and→ j).0; reader = (and→ j).1 }

  -- FROM REPLAY TO EDGES
  module _ (right : reads_right log w ≡ true) (sorted : writers_in_order log w ≡ true) where
    -- two writers of one object come in commit order
    commit_order : (x a b : ℕ) → Wrote log x a → Wrote log x b → before a b w ≡ true → commit_step log a < commit_step log b
    unfolding writers_in_order
    commit_order x a b p q h =
        below→ (implies→ (all→ _ w (all→ _ w sorted a (is_member a p.commit)) b (is_member b q.commit)) (→and h (share log x a b p.write q.write)))

    by_commit : (x a b : ℕ) → Wrote log x a → Wrote log x b → commit_step log a < commit_step log b → before a b w ≡ true
    by_commit x a b p q h =
        ⊎_elim (λ k. k) (λ (k : before b a w ≡ true). let z : commit_step log b < commit_step log a = commit_order x b a q p k in absurd (omega arith))
        (before_total a b w (is_member a p.commit) (is_member b q.commit) (λ (e : a ≡ b). let f : commit_step log a ≡ commit_step log b = ap (commit_step log) e in omega arith))

    keep_ww : (a b : ℕ) → from_writer log a b ≡ true → before a b w ≡ true
    unfolding from_writer writer writes
    keep_ww a b h =
        let r = some→ (and→ h).1 in
        let x : ℕ = obj log r.0 in
        let p : Wrote log x a = record { commit = (and→ h).0; write = →some _ r.0 r.1 (→and (and→ r.2).0 (→is refl)) } in
        let f : Following log well x a b = next→ log well x a b (and→ r.2).1 in
        by_commit x a b p f.wrote (rw (versions_from_other log a (not_zero log well a p.commit)) at f.later)

    -- what a judged read from another finds is its source
    read_found : (i : ℕ) → i < steps log → judged_other log i ≡ true
        → Last log (obj log i) (tx log i) (src log i) w ⊎ ((src log i ≡ 0) × None log (obj log i) (tx log i) w)
    unfolding reads_right judged_other
    read_found i h j =
        rw (is→ (implies→ (every→ _ right i h) j)) at
        (finds_cases log (obj log i) (tx log i) 0 w different (is_member (tx log i) (read→ i h (and→ j).0).reader))

    keep_wr : (a b : ℕ) → (a ≡ b → ⊥) → (a ≡ 0 → ⊥) → from_source log a b ≡ true → before a b w ≡ true
    unfolding from_source judged_other
    keep_wr a b n z h =
        let r = some→ h in
        let i : ℕ = r.0 in
        let e : src log i ≡ a = is→ (and→ (and→ r.2).0).1 in
        let f : tx log i ≡ b = is→ (and→ r.2).1 in
        let j : judged_other log i ≡ true = →and (and→ (and→ r.2).0).0 (→fails (→isnt (λ (k : src log i ≡ tx log i). n (sym e ∙ k ∙ f)))) in
        ⊎_elim (λ (l : Last log (obj log i) (tx log i) (src log i) w). subst (λ (u : ℕ). before u b w ≡ true) e (subst (λ (u : ℕ). before (src log i) u w ≡ true) f l.here))
        (λ (k : (src log i ≡ 0) × None log (obj log i) (tx log i) w). absurd (z (sym e ∙ k.0))) (read_found i r.1 j)

    -- the reader of a version stands before the writer of the next one
    reader_first : (i b : ℕ) → i < steps log → judged log i ≡ true → (tx log i ≡ b → ⊥) → Following log well (obj log i) (src log i) b → before (tx log i) b w ≡ true
    unfolding judged_other
    reader_first i b h j n f = go (decide (src log i is tx log i))
      where
        x : ℕ
        x = obj log i

        r : ℕ
        r = tx log i

        s : ℕ
        s = src log i

        read : Read i
        read = read→ i h j

        other : (before r b w ≡ true) ⊎ (before b r w ≡ true)
        other = before_total r b w (is_member r read.reader) (is_member b f.wrote.commit) n

        from_other : Last log x r s w ⊎ ((s ≡ 0) × None log x r w) → before b r w ≡ true → ⊥
        from_other (inr k) m = k.1 b f.wrote.write m
        from_other (inl l) m = ⊎_elim same_one earlier (l.last b f.wrote.write m)
          where
            p : Wrote log x s
            p = record { commit = of_member s (before_left s r w l.here); write = l.write }

            later : suc (commit_step log s) ≤ commit_step log b
            later = rw (versions_from_other log s (not_zero log well s p.commit)) at f.later

            same_one : b ≡ s → ⊥
            same_one e = let c : commit_step log b ≡ commit_step log s = ap (commit_step log) e in omega (arith, later)

            earlier : before b s w ≡ true → ⊥
            earlier k = let c : commit_step log b < commit_step log s = commit_order x b s f.wrote p k in omega (arith, later)

        go : ((src log i is tx log i) ≡ true) ⊎ ((src log i is tx log i) ≡ false) → before r b w ≡ true
        go (inl own) =
            let e : s ≡ r = is→ own in
            let z : s ≡ 0 → ⊥ = λ (k : s ≡ 0). not_zero log well r read.reader (sym e ∙ k) in
            let p : Wrote log x r = record { commit = read.reader; write = rw e at (well.source i h read.kind_2 z) } in
            by_commit x r b p f.wrote (rw (versions_from_other log r (not_zero log well r read.reader)) at (rw e at f.later))
        go (inr own) = ⊎_elim (λ k. k) (λ k. absurd (from_other (read_found i h (→and j (→fails own))) k)) other

    keep_rw : (a b : ℕ) → (a ≡ b → ⊥) → from_reader log a b ≡ true → before a b w ≡ true
    unfolding from_reader
    keep_rw a b n h =
        let r = some→ h in
        let i : ℕ = r.0 in
        let e : tx log i ≡ a = is→ (and→ (and→ r.2).0).1 in
        subst (λ (u : ℕ). before u b w ≡ true) e
        (reader_first i b r.1 (and→ (and→ r.2).0).0 (λ (k : tx log i ≡ b). n (sym e ∙ k)) (next→ log well (obj log i) (src log i) b (and→ r.2).1))

    keep_edge : (a b : ℕ) → version_edge log a b ≡ true → before a b w ≡ true
    unfolding plain_version
    keep_edge a b e =
        let h : plain_version log a b ≡ true = sym (plain_version_edge log well a b) ∙ e in
        let n : a ≡ b → ⊥ = isnt→ (fails→ (and→ (and→ (and→ h).0).0).0) in
        let z : a ≡ 0 → ⊥ = isnt→ (fails→ (and→ (and→ (and→ h).0).0).1) in
        ⊎_elim (λ k. ⊎_elim (keep_ww a b) (keep_wr a b n z) (or→ k)) (keep_rw a b n) (or→ (and→ h).1)

    replay_keeps : keeps (version_edge log) w ≡ true
    unfolding keeps
    replay_keeps = →all _ w (λ a p. →all _ w (λ b q. →implies (keep_edge a b)))

  -- FROM EDGES TO REPLAY
  module _ (clean : is_clean log ≡ true) (kept : keeps (version_edge log) w ≡ true) where
    edge : (a b : ℕ) → committed log a ≡ true → committed log b ≡ true → version_edge log a b ≡ true → before a b w ≡ true
    unfolding keeps
    edge a b p q h = implies→ (all→ _ w (all→ _ w kept a (is_member a p)) b (is_member b q)) h

    -- two different committed transactions are joined
    join : (a b : ℕ) → committed log a ≡ true → committed log b ≡ true → (a ≡ b → ⊥) → (from_writer log a b or from_source log a b or from_reader log a b) ≡ true → before a b w ≡ true
    unfolding plain_version
    join a b p q n h =
        edge a b p q (plain_version_edge log well a b ∙ →and (→and (→and (→fails (→isnt n)) (→fails (→isnt (not_zero log well a p)))) (→fails (→isnt (not_zero log well b q)))) h)

    to_next : (x a u : ℕ) → Wrote log x a → committed log u ≡ true → (a ≡ u → ⊥) → next_version log x a u ≡ true → before a u w ≡ true
    unfolding from_writer writer writes
    to_next x a u p q n h =
        let r = some→ p.write in
        let e : obj log r.0 ≡ x = is→ (and→ r.2).1 in
        join a u p.commit q n (→or_left _ (→or_left _ (→and p.commit (→some _ r.0 r.1 (→and (and→ r.2).0 (rw e h))))))

    -- the writers of one object stand in commit order: k bounds how far apart they commit
    chain : (k : ℕ) (x a b : ℕ) → Wrote log x a → Wrote log x b → commit_step log a < commit_step log b → commit_step log b < commit_step log a + k → before a b w ≡ true
    chain zero x a b p q h l = absurd (omega arith)
    chain (suc k) x a b p q h l = go (decide (commit_step log u below commit_step log b)) (λ h' l'. chain k x u b f.wrote q h' l')
      where
        a_after : versions_from log a ≡ suc (commit_step log a)
        a_after = versions_from_other log a (not_zero log well a p.commit)

        r : (u : ℕ) × (next_version log x a u ≡ true) × Following log well x a u
        r = →next log well x a b q (rw a_after h)

        u : ℕ
        u = r.0

        f : Following log well x a u
        f = r.2

        later : suc (commit_step log a) ≤ commit_step log u
        later = rw a_after at f.later

        first : before a u w ≡ true
        first = to_next x a u p f.wrote.commit (λ (e : a ≡ u). let c : commit_step log a ≡ commit_step log u = ap (commit_step log) e in omega (arith, later)) r.1

        go : ((commit_step log u below commit_step log b) ≡ true) ⊎ ((commit_step log u below commit_step log b) ≡ false)
            → (commit_step log u < commit_step log b → commit_step log b < commit_step log u + k → before u b w ≡ true) → before a b w ≡ true
        go (inl c) rec = before_trans a u b w different first (rec (below→ c) (omega (arith, later)))
        go (inr c) rec =
            let m : commit_step log u ≤ commit_step log b = f.least b q (rw a_after h) in
            let e : u ≡ b = commit_injective log well u b f.wrote.commit q.commit (omega (arith, not_below→ c)) in
            rw e at first

    in_order : (x a b : ℕ) → Wrote log x a → Wrote log x b → commit_step log a < commit_step log b → before a b w ≡ true
    in_order x a b p q h = chain (suc (commit_step log b)) x a b p q h (omega arith)

    -- so of two writers the earlier in the order committed earlier
    order_commit : (x a b : ℕ) → Wrote log x a → Wrote log x b → before a b w ≡ true → commit_step log a < commit_step log b
    order_commit x a b p q h = go (decide (commit_step log a below commit_step log b)) (decide (commit_step log b below commit_step log a))
      where
        go : ((commit_step log a below commit_step log b) ≡ true) ⊎ ((commit_step log a below commit_step log b) ≡ false)
            → ((commit_step log b below commit_step log a) ≡ true) ⊎ ((commit_step log b below commit_step log a) ≡ false) → commit_step log a < commit_step log b
        go (inl c) e = below→ c
        go (inr c) (inl e) = absurd (before_asym a b w different h (in_order x b a q p (below→ e)))
        go (inr c) (inr e) =
            let f : a ≡ b = commit_injective log well a b p.commit q.commit (omega (arith, not_below→ c, not_below→ e)) in
            absurd (before_irreflexive a w different (subst (λ (u : ℕ). before a u w ≡ true) (sym f) h))

    sorted_writers : writers_in_order log w ≡ true
    unfolding writers_in_order
    sorted_writers =
        →all _ w (λ a p. →all _ w (λ b q. →implies (λ h.
        let r = shared log a b (and→ h).1 in
        →below (order_commit r.0 a b (record { commit = of_member a p; write = r.1 }) (record { commit = of_member b q; write = r.2 }) (and→ h).0))))

    -- a judged read from another
    module _ (i : ℕ) (h : i < steps log) (j : judged_other log i ≡ true) where
      read : Read i
      unfolding judged_other
      read = read→ i h (and→ j).0

      not_own : src log i ≡ tx log i → ⊥
      unfolding judged_other
      not_own = isnt→ (fails→ (and→ j).1)

      -- a source other than 0 is a committed writer of the object
      source : (src log i ≡ 0 → ⊥) → Wrote log (obj log i) (src log i)
      source z = record { commit = source_committed log clean i h j z; write = well.source i h read.kind_2 z }

      source_before : (src log i ≡ 0 → ⊥) → before (src log i) (tx log i) w ≡ true
      unfolding from_source judged_other
      source_before z =
          join (src log i) (tx log i) (source z).commit read.reader not_own
          (→or_left _ (→or_right _ (→some _ i h (→and (→and (and→ j).0 (→is refl)) (→is refl)))))

      -- the reader stands before the writer of any version after the one read
      before_newer : (u : ℕ) → Wrote log (obj log i) u → versions_from log (src log i) ≤ commit_step log u → before u (tx log i) w ≡ true → ⊥
      unfolding from_reader judged_other
      before_newer u p l m = go (decide (n is tx log i))
        where
          r : (n : ℕ) × (next_version log (obj log i) (src log i) n ≡ true) × Following log well (obj log i) (src log i) n
          r = →next log well (obj log i) (src log i) u p l

          n : ℕ
          n = r.0

          f : Following log well (obj log i) (src log i) n
          f = r.2

          least : commit_step log n ≤ commit_step log u
          least = f.least u p l

          go : ((n is tx log i) ≡ true) ⊎ ((n is tx log i) ≡ false) → ⊥
          go (inl e) =
              let c : commit_step log u < commit_step log n = order_commit (obj log i) u n p f.wrote (rw (is→ {m = n} {n = tx log i} e) m) in
              omega (arith, least)
          go (inr e) =
              let k : before (tx log i) n w ≡ true = join (tx log i) n read.reader f.wrote.commit (λ z. isnt→ e (sym z)) (→or_right _ (→some _ i h (→and (→and (and→ j).0 (→is refl)) r.1))) in
              let c : commit_step log u < commit_step log n = order_commit (obj log i) u n p f.wrote (before_trans u (tx log i) n w different m k) in
              omega (arith, least)

      reads_source : finds log (obj log i) (tx log i) 0 w ≡ src log i
      reads_source = go (decide (s is 0)) (finds_cases log x r 0 w different (is_member r read.reader))
        where
          x : ℕ
          x = obj log i

          r : ℕ
          r = tx log i

          s : ℕ
          s = src log i

          t : ℕ
          t = finds log x r 0 w

          -- the one found is no newer than the source
          older : Last log x r t w → commit_step log t < versions_from log s
          older l = ⊎_elim (λ (c : (commit_step log t below versions_from log s) ≡ true). below→ c) (λ (c : (commit_step log t below versions_from log s) ≡ false). absurd (before_newer t (found l) (not_below→ c) l.here)) (decide (commit_step log t below versions_from log s))
            where
              found : Last log x r t w → Wrote log x t
              found l = record { commit = of_member t (before_left t r w l.here); write = l.write }

          go : ((s is 0) ≡ true) ⊎ ((s is 0) ≡ false) → Last log x r t w ⊎ ((t ≡ 0) × None log x r w) → t ≡ s
          go (inl z) (inl l) = let c : commit_step log t < 0 = rw versions_from_zero at (rw (is→ {m = s} {n = 0} z) at (older l)) in absurd (omega arith)
          go (inl z) (inr k) = k.0 ∙ sym (is→ z)
          go (inr z) (inr k) = absurd (k.1 s (source (isnt→ z)).write (source_before (isnt→ z)))
          go (inr z) (inl l) = ⊎_elim sym later (l.last s (source (isnt→ z)).write (source_before (isnt→ z)))
            where
              later : before s t w ≡ true → t ≡ s
              later m =
                  let c : commit_step log s < commit_step log t = order_commit x s t (source (isnt→ z)) (record { commit = of_member t (before_left t r w l.here); write = l.write }) m in
                  let d : commit_step log t < suc (commit_step log s) = rw (versions_from_other log s (isnt→ z)) at (older l) in
                  absurd (omega arith)

    right_reads : reads_right log w ≡ true
    unfolding reads_right
    right_reads = →every _ (λ i h. →implies (λ j. →is (reads_source i h j)))

-- For a well_formed, clean log a serial order explains the log exactly when it keeps every version edge.
pub centre : {most : ℕ} (log : List ℕ) → Well most log → is_clean log ≡ true → (w : List ℕ) → serial most log w ≡ true
    → (explains most log w ≡ true) ↔ (keeps (version_edge log) w ≡ true)
unfolding explains explains_loosely
centre log well clean w ser = (
  (λ h. replay_keeps log well w ser (and→ (and→ h).0).1 (and→ h).1),
  (λ k. →and (→and (→and clean ser) (right_reads log well w ser clean k)) (sorted_writers log well w ser clean k)),
)
