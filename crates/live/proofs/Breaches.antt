-- C2, the first half: when a breach comes. A step that is no commit brings none; a commit brings one exactly by a wrong read of its
-- transaction or by a clash with one who committed after it began.
use mathlib.Core.Path.{◌≡◌, refl, sym, ap, ◌∙◌}
use mathlib.Core.Bool.{Bool, true, false}
use mathlib.Core.Logic.{◌⊎◌, inl, inr, ⊎_elim}
use mathlib.Core.List.{List}
use Prim.Native.Nat.{ℕ, suc, ◌<◌}
use native.Mathlib.Omega.{arith}
use Rattle.words.specs.Tests.{◌is◌, ◌below◌, ◌and◌, ◌or◌, fails, some}
use Rattle.words.proofs.Truth.{decide, not_both, to_false, same_test, and→, →and, and_no_left, or→, →or_left, →or_right, or_no, is→, →is, →isnt, below→, →below, not_below→, some→, →some, →none, some_same}
use Rattle.verdict.specs.Log.{steps, kind, tx, src, reads, commits, committed, writer, write_one_object, begin_step, commit_step}
use Rattle.verdict.specs.Log.{begun}
use Rattle.verdict.specs.Clean.{judged}
use Rattle.verdict.specs.Snapshot.{snapshot_step, overlap, clash, wrong_commit}
use Rattle.verdict.proofs.Versions.{share, shared}
use Rattle.live.specs.Breach.{misread, breached}
use Rattle.live.specs.Inner.Seen.{source_wanted, misreads, clashes}
use Rattle.live.proofs.Grows.{Grows, some_grows, reads_same, committed_grows, writer_grows, begin_step_same, commit_step_same, commit_step_here, writer_same, wanted_same}
use Rattle.live.specs.Inner.Accepted.{Whole, Accepted}
use Rattle.live.proofs.Accepted.{Good, open→, commit_step_is, begins_first, begun_committed, good_uncommitted, accepted_grows}
use Rattle.live.proofs.LastWriter.{commit_committed, misread_wanted}

-- two write one object: by an object
pub share_same : (log log' : List ℕ) (a b : ℕ) → ((x : ℕ) → writer log x a ≡ true → writer log' x a ≡ true) → ((x : ℕ) → writer log x b ≡ true → writer log' x b ≡ true)
    → write_one_object log a b ≡ true → write_one_object log' a b ≡ true
share_same log log' a b f g h = let r = shared log a b h in share log' r.0 a b (f r.0 r.1) (g r.0 r.2)

pub record Clash (log : List ℕ) (j p : ℕ) : Type 0 where
  pub is_commit : kind log j ≡ 4
  pub partner : committed log p ≡ true
  pub earlier : commit_step log p < j
  pub begun_before : begin_step log (tx log j) < commit_step log p
  pub began : begin_step log p < commit_step log (tx log j)
  pub both_write : write_one_object log (tx log j) p ≡ true

pub clash→ : {log : List ℕ} {j p : ℕ} → clash log j p ≡ true → Clash log j p
unfolding clash overlap snapshot_step
clash→ h =
    let a = and→ h in
    let b = and→ a.0 in
    let c = and→ b.0 in
    let d = and→ c.0 in
    record { is_commit = is→ d.0; partner = d.1; earlier = below→ c.1; begun_before = below→ (and→ b.1).0; began = below→ (and→ b.1).1; both_write = a.1 }

pub →clash : {log : List ℕ} {j p : ℕ} → Clash log j p → clash log j p ≡ true
unfolding clash overlap snapshot_step
→clash r = →and (→and (→and (→and (→is r.is_commit) r.partner) (→below r.earlier)) (→and (→below r.begun_before) (→below r.began))) r.both_write

module _ {most k t x s : ℕ} {log log' : List ℕ} (ok : Accepted most log) (good : Good most log k t x) (g : Grows log k t x s log') (whole : Whole log') where
  ok' : Accepted most log'
  ok' = accepted_grows ok good g whole

  new : committed log t ≡ false
  new = good_uncommitted ok good

  stays : (u : ℕ) → committed log u ≡ true → committed log' u ≡ true
  stays u c = committed_grows g u ∙ →or_left _ c

  -- who commits in the longer log
  who : (u : ℕ) → committed log' u ≡ true → (committed log u ≡ true) ⊎ ((k ≡ 4) × (t ≡ u))
  who u c = ⊎_elim inl (λ q. inr (is→ (and→ q).0, is→ (and→ q).1)) (or→ (sym (committed_grows g u) ∙ c))

  step_commits : (j : ℕ) → j < steps log → kind log j ≡ 4 → committed log (tx log j) ≡ true
  step_commits j h e = commit_committed log (tx log j) j h (unfold commits in (→and (→is e) (→is refl)))

  -- an earlier commit clashes with whom it clashed
  clash_same : (j p : ℕ) → j < steps log → clash log' j p ≡ clash log j p
  clash_same j p h = same_test forth back
    where
      forth : clash log' j p ≡ true → clash log j p ≡ true
      forth q = go (clash→ q)
        where
          go : Clash log' j p → clash log j p ≡ true
          go r = old (who p r.partner)
            where
              e : kind log j ≡ 4
              e = sym (g.kinds j h) ∙ r.is_commit

              c : committed log (tx log j) ≡ true
              c = step_commits j h e

              old : (committed log p ≡ true) ⊎ ((k ≡ 4) × (t ≡ p)) → clash log j p ≡ true
              old (inr q) =
                  let z : commit_step log' t ≡ steps log = commit_step_here g q.0 new in
                  let y : commit_step log' p ≡ steps log = rw (← q.1) z in
                  let l : commit_step log' p < j = r.earlier in
                  absurd (omega arith)
              old (inl d) =
                  →clash (record {
                    is_commit = e;
                    partner = d;
                    earlier = rw (commit_step_same g p d) at r.earlier;
                    begun_before = rw (g.txs j h, begin_step_same g (tx log j) (begun_committed ok _ c), commit_step_same g p d) at r.begun_before;
                    began = rw (g.txs j h, begin_step_same g p (begun_committed ok p d), commit_step_same g (tx log j) c) at r.began;
                    both_write = share_same log' log (tx log j) p (λ y w. sym (writer_same g new y _ c) ∙ w) (λ y w. sym (writer_same g new y p d) ∙ w) (rw (g.txs j h) at r.both_write);
                  })

      back : clash log j p ≡ true → clash log' j p ≡ true
      back q = go (clash→ q)
        where
          go : Clash log j p → clash log' j p ≡ true
          go r =
              let c : committed log (tx log j) ≡ true = step_commits j h r.is_commit in
              let d : committed log p ≡ true = r.partner in
              →clash (record {
                is_commit = g.kinds j h ∙ r.is_commit;
                partner = stays p d;
                earlier = rw (commit_step_same g p d) r.earlier;
                begun_before = rw (g.txs j h, begin_step_same g (tx log j) (begun_committed ok _ c), commit_step_same g p d) r.begun_before;
                began = rw (g.txs j h, begin_step_same g p (begun_committed ok p d), commit_step_same g (tx log j) c) r.began;
                both_write = rw (g.txs j h) (share_same log log' (tx log j) p (λ y w. writer_same g new y _ c ∙ w) (λ y w. writer_same g new y p d ∙ w) r.both_write);
              })

  wrong_commit_same : (j : ℕ) → j < steps log → wrong_commit most log' j ≡ wrong_commit most log j
  unfolding wrong_commit
  wrong_commit_same j h = some_same (suc most) _ _ (λ p l. clash_same j p h)

  -- a read of someone who committed, or did not, is as it was
  read_begun : (i : ℕ) → i < steps log → kind log i ≡ 2 → begun log i (tx log i) ≡ true
  read_begun i h e = ok.has_begun i h (λ (q : kind log i ≡ 1). omega arith)

  longer : (i : ℕ) → i < steps log → i < steps log'
  longer i h = let e : steps log' ≡ suc (steps log) = g.size in omega arith

  misread_stays : (i : ℕ) → i < steps log → misread log i ≡ true → misread log' i ≡ true
  unfolding judged reads
  misread_stays i h m =
      let r = and→ (sym (misread_wanted ok i h) ∙ m) in
      let e : source_wanted log' i ≡ source_wanted log i = wanted_same g new i h (read_begun i h (is→ (and→ r.0).0)) in
      misread_wanted ok' i (longer i h)
      ∙ →and (rw (g.kinds i h, g.txs i h) (→and (and→ r.0).0 (stays _ (and→ r.0).1))) (rw (g.srcs i h, e) r.1)

  -- a wrong read in the longer log is one of before, or of the one that commits now
  misread_from : (i : ℕ) → i < steps log → misread log' i ≡ true → (misread log i ≡ true) ⊎ ((k ≡ 4) × (t ≡ tx log i) × (reads log i ≡ true) × (fails (src log i is source_wanted log i) ≡ true))
  unfolding judged reads
  misread_from i h m =
      let r = and→ (sym (misread_wanted ok' i (longer i h)) ∙ m) in
      let j = and→ r.0 in
      let q : (kind log i is 2) ≡ true = rw (g.kinds i h) at j.0 in
      let e : source_wanted log' i ≡ source_wanted log i = wanted_same g new i h (read_begun i h (is→ q)) in
      let f : fails (src log i is source_wanted log i) ≡ true = rw (g.srcs i h, e) at r.1 in
      ⊎_elim (λ c. inl (misread_wanted ok i h ∙ →and (→and q c) f)) (λ c. inr (c.0, c.1, q, f)) (who (tx log i) (rw (g.txs i h) at j.1))

  -- the step itself is no wrong read
  no_misread_here : misread log' (steps log) ≡ false
  unfolding judged reads
  no_misread_here = to_false _ (λ m.
      let l : steps log < steps log' = (let e : steps log' ≡ suc (steps log) = g.size in omega arith) in
      let r = and→ (sym (misread_wanted ok' (steps log) l) ∙ m) in
      let q : k ≡ 2 = sym g.kind_here ∙ is→ (and→ r.0).0 in
      ⊎_elim (λ c. not_both c new) (λ (c : (k ≡ 4) × (t ≡ t)). let z : k ≡ 4 = c.0 in omega arith) (who t (rw g.tx_here at (and→ r.0).1)))

  -- A STEP THAT IS NO COMMIT
  pub breached_same : (k ≡ 4 → ⊥) → breached most log' ≡ breached most log
  unfolding breached wrong_commit
  breached_same n =
      some_grows g (λ i. misread log i or wrong_commit most log i) (λ i. misread log' i or wrong_commit most log' i)
      (λ i h. ap (λ (b : Bool). b or wrong_commit most log' i) (same_test (λ m. ⊎_elim (λ z. z) (λ (z : (k ≡ 4) × (t ≡ tx log i) × (reads log i ≡ true) × (fails (src log i is source_wanted log i) ≡ true)). absurd (n z.0)) (misread_from i h m)) (misread_stays i h))
      ∙ ap (λ (b : Bool). misread log i or b) (wrong_commit_same i h))
      ∙ or_no _ (or_no _ (→none (clash log' (steps log)) (λ p l. to_false _ (λ c. n (sym g.kind_here ∙ (clash→ c).is_commit)))) ∙ no_misread_here)

  -- A COMMIT
  module _ (commit : k ≡ 4) where
    open_here : begun log (steps log) t ≡ true
    open_here = (open→ log t (good.alive (λ (q : k ≡ 1). omega arith))).0

    writer_as_before : (y u : ℕ) → writer log' y u ≡ writer log y u
    writer_as_before y u = writer_grows g y u ∙ or_no _ (and_no_left _ (and_no_left _ (→isnt (λ (q : k ≡ 3). omega arith))))

    committed_now : committed log' t ≡ true
    committed_now = committed_grows g t ∙ →or_right _ (→and (→is commit) (→is refl))

    clash_here : (p : ℕ) → clash log' (steps log) p ≡ (committed log p and begin_step log t below commit_step log p and write_one_object log t p)
    clash_here p = same_test (λ q. forth (clash→ q)) back
      where
        forth : Clash log' (steps log) p → (committed log p and begin_step log t below commit_step log p and write_one_object log t p) ≡ true
        forth r = go (who p r.partner)
          where
            go : (committed log p ≡ true) ⊎ ((k ≡ 4) × (t ≡ p)) → (committed log p and begin_step log t below commit_step log p and write_one_object log t p) ≡ true
            go (inr q) =
                let z : commit_step log' t ≡ steps log = commit_step_here g q.0 new in
                let y : commit_step log' p ≡ steps log = rw (← q.1) z in
                let l : commit_step log' p < steps log = r.earlier in
                absurd (omega arith)
            go (inl d) =
                →and (→and d (→below (rw (g.tx_here, begin_step_same g t open_here, commit_step_same g p d) at r.begun_before)))
                (share_same log' log t p (λ y w. sym (writer_as_before y t) ∙ w) (λ y w. sym (writer_as_before y p) ∙ w) (rw g.tx_here at r.both_write))

        back : (committed log p and begin_step log t below commit_step log p and write_one_object log t p) ≡ true → clash log' (steps log) p ≡ true
        back q =
            let a = and→ q in
            let d : committed log p ≡ true = (and→ a.0).0 in
            let l : commit_step log p < steps log = (commit_step_is ok p d).0 in
            let b : begin_step log p < commit_step log p = begins_first ok p d in
            →clash (record {
              is_commit = g.kind_here ∙ commit;
              partner = stays p d;
              earlier = rw (commit_step_same g p d) l;
              begun_before = rw (g.tx_here, begin_step_same g t open_here, commit_step_same g p d) (below→ (and→ a.0).1);
              began = rw (g.tx_here, begin_step_same g p (begun_committed ok p d), commit_step_here g commit new) (omega arith);
              both_write = rw g.tx_here (share_same log log' t p (λ y w. writer_as_before y t ∙ w) (λ y w. writer_as_before y p ∙ w) a.1);
            })

    clashes_here : wrong_commit most log' (steps log) ≡ clashes most log t
    unfolding wrong_commit clashes
    clashes_here = some_same (suc most) _ _ (λ p l. clash_here p)

    pub breached_commit : breached most log' ≡ (breached most log or (misreads log t or clashes most log t))
    unfolding breached misreads
    breached_commit = same_test (λ q. forth (some→ q)) (λ q. ⊎_elim (λ b. before (some→ b)) (λ b. ⊎_elim (λ m. mine (some→ m)) last (or→ b)) (or→ q))
      where
        size : steps log' ≡ suc (steps log)
        size = g.size

        forth : (i : ℕ) × (i < steps log') × ((misread log' i or wrong_commit most log' i) ≡ true)
            → (some (steps log) (λ i. misread log i or wrong_commit most log i) or (some (steps log) (λ i. reads log i and tx log i is t and fails (src log i is source_wanted log i)) or clashes most log t)) ≡ true
        forth r = go (decide (r.0 below steps log))
          where
            go : ((r.0 below steps log) ≡ true) ⊎ ((r.0 below steps log) ≡ false)
                → (some (steps log) (λ i. misread log i or wrong_commit most log i) or (some (steps log) (λ i. reads log i and tx log i is t and fails (src log i is source_wanted log i)) or clashes most log t)) ≡ true
            go (inl l) =
                ⊎_elim (λ m. ⊎_elim (λ b. →or_left _ (→some _ r.0 (below→ l) (→or_left _ b)))
                (λ (b : (k ≡ 4) × (t ≡ tx log r.0) × (reads log r.0 ≡ true) × (fails (src log r.0 is source_wanted log r.0) ≡ true)). →or_right _ (→or_left _ (→some _ r.0 (below→ l) (→and (→and b.2 (→is (sym b.1))) b.3))))
                (misread_from r.0 (below→ l) m))
                (λ m. →or_left _ (→some _ r.0 (below→ l) (→or_right _ (sym (wrong_commit_same r.0 (below→ l)) ∙ m)))) (or→ r.2)
            go (inr l) =
                let e : r.0 ≡ steps log = omega (arith, not_below→ l, size, r.1) in
                ⊎_elim (λ m. absurd (not_both (rw e at m) no_misread_here)) (λ m. →or_right _ (→or_right _ (sym clashes_here ∙ (rw e at m)))) (or→ r.2)

        before : (i : ℕ) × (i < steps log) × ((misread log i or wrong_commit most log i) ≡ true) → some (steps log') (λ i. misread log' i or wrong_commit most log' i) ≡ true
        before r = →some _ r.0 (longer r.0 r.1) (⊎_elim (λ m. →or_left _ (misread_stays r.0 r.1 m)) (λ m. →or_right _ (wrong_commit_same r.0 r.1 ∙ m)) (or→ r.2))

        mine : (i : ℕ) × (i < steps log) × ((reads log i and tx log i is t and fails (src log i is source_wanted log i)) ≡ true) → some (steps log') (λ i. misread log' i or wrong_commit most log' i) ≡ true
        mine r =
            let i : ℕ = r.0 in
            let h : i < steps log = r.1 in
            let a = and→ r.2 in
            let b = and→ a.0 in
            let e : tx log i ≡ t = is→ b.1 in
            →some _ i (longer i h) (→or_left _ (misread_wanted ok' i (longer i h) ∙ →and (judged_now i h b.0 e) (wanted_now i h b.0 a.1)))
          where
            judged_now : (i : ℕ) → i < steps log → reads log i ≡ true → tx log i ≡ t → judged log' i ≡ true
            judged_now i h b e = unfold judged in (→and (reads_same g i h ∙ b) (rw (g.txs i h, e) committed_now))

            wanted_now : (i : ℕ) → i < steps log → reads log i ≡ true → fails (src log i is source_wanted log i) ≡ true → fails (src log' i is source_wanted log' i) ≡ true
            wanted_now i h b f = rw (g.srcs i h, wanted_same g new i h (read_begun i h (is→ (unfold reads in b)))) f

        last : clashes most log t ≡ true → some (steps log') (λ i. misread log' i or wrong_commit most log' i) ≡ true
        last q = →some _ (steps log) (omega (arith, size)) (→or_right _ (clashes_here ∙ q))
