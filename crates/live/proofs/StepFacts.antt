-- One step more, as a row sees it: what changes for the transaction of the step, and that nothing changes for the others.
use mathlib.Core.Path.{◌≡◌, refl, sym, subst, ◌∙◌}
use mathlib.Core.Bool.{true, false}
use mathlib.Core.Logic.{◌⊎◌, inl, inr, ⊎_elim}
use mathlib.Core.List.{List}
use Prim.Native.Nat.{ℕ, suc, ◌<◌}
use native.Mathlib.Omega.{arith}
use Rattle.words.specs.Tests.{◌is◌, ◌upto◌, ◌and◌, ◌or◌, fails, provided◌then◌else◌}
use Rattle.words.proofs.Truth.{decide, not_both, to_false, and→, →and, and_no_left, and_no_right, and_true, or→, →or_left, →or_right, or_no, →fails, is→, →is, →isnt, provided_true, provided_false, some→}
use Rattle.verdict.specs.Log.{steps, kind, tx, obj, src, reads, writes, begins, commits, aborts, begun, ended, wrote, committed, writer, begin_step, commits_writer}
use Rattle.live.specs.SoFar.{is_open, passed}
use Rattle.live.specs.Inner.Seen.{last_writer, seen, source_wanted, misreads, reads_first}
use Rattle.live.proofs.Grows.{Grows, begin_before, begun_later, writer_here, writer_before, wanted_is, some_grows, begins_same, ends_same, begin_step_same, begin_step_here, wanted_same, wrote_same, writer_grows, last_same}
use Rattle.live.specs.Inner.Accepted.{Accepted}
use Rattle.live.proofs.Accepted.{Good, open→, good_uncommitted, new_unbegun}

module _ {log log' : List ℕ} {k t x s : ℕ} (g : Grows log k t x s log') where
  -- a first read
  pub reads_first_grows : (y u : ℕ) → reads_first log' y u ≡ (reads_first log y u or (k is 2 and t is u and x is y and fails (wrote log (steps log) u y)))
  unfolding reads_first reads
  reads_first_grows y u =
      some_grows g (λ i. kind log i is 2 and tx log i is u and obj log i is y and fails (wrote log i u y)) _ (λ (i : ℕ) (h : i < steps log). rw (g.kinds i h, g.txs i h, g.objs i h, wrote_same g i (omega arith) u y) refl)
      ∙ rw (g.kind_here, g.tx_here, g.obj_here, wrote_same g (steps log) (omega arith) u y) refl

  pub reads_first_other : (y u : ℕ) → (t ≡ u → ⊥) → reads_first log' y u ≡ reads_first log y u
  reads_first_other y u d = reads_first_grows y u ∙ or_no _ (and_no_left _ (and_no_left _ (and_no_right _ (→isnt d))))

  -- who has begun, and who has ended
  pub begun_grows : (u : ℕ) → begun log' (steps log') u ≡ (begun log (steps log) u or (k is 1 and t is u))
  unfolding begun
  begun_grows u = some_grows g _ _ (λ i h. begins_same g i h u) ∙ rw begins_here refl
    where
      begins_here : begins log' u (steps log) ≡ (k is 1 and t is u)
      begins_here = unfold begins in (rw (g.kind_here, g.tx_here) refl)

  pub ended_grows : (u : ℕ) → ended log' (steps log') u ≡ (ended log (steps log) u or (k is 4 and t is u or k is 5 and t is u))
  unfolding ended
  ended_grows u = some_grows g _ _ (λ i h. ends_same g i h u) ∙ rw ends_here refl
    where
      ends_here : (commits log' u (steps log) or aborts log' u (steps log)) ≡ (k is 4 and t is u or k is 5 and t is u)
      ends_here = unfold commits aborts in (rw (g.kind_here, g.tx_here) refl)

  -- the others are open as before
  pub open_other : (u : ℕ) → (t ≡ u → ⊥) → is_open log' u ≡ is_open log u
  unfolding is_open
  open_other u d =
      let b : begun log' (steps log') u ≡ begun log (steps log) u = begun_grows u ∙ or_no _ (and_no_right _ (→isnt d)) in
      let e : ended log' (steps log') u ≡ ended log (steps log) u = ended_grows u ∙ or_no _ (or_no _ (and_no_right _ (→isnt d)) ∙ and_no_right _ (→isnt d)) in
      rw (b, e) refl

-- one that has not begun has done nothing
module _ {most : ℕ} {log : List ℕ} (ok : Accepted most log) (t : ℕ) (unbegun : begun log (steps log) t ≡ false) where
  silent : (i : ℕ) → i < steps log → tx log i ≡ t → (kind log i ≡ 1 → ⊥) → ⊥
  silent i h e n = not_both (begun_later log i (steps log) t (omega arith) (subst (λ (z : ℕ). begun log i z ≡ true) e (ok.has_begun i h n))) unbegun

  pub unbegun_unended : ended log (steps log) t ≡ false
  unfolding ended commits aborts
  unbegun_unended = to_false _ (λ q.
      let r = some→ q in
      ⊎_elim (λ c. let w = and→ c in let k : kind log r.0 ≡ 4 = is→ w.0 in silent r.0 r.1 (is→ w.1) (λ (z : kind log r.0 ≡ 1). omega arith))
      (λ c. let w = and→ c in let k : kind log r.0 ≡ 5 = is→ w.0 in silent r.0 r.1 (is→ w.1) (λ (z : kind log r.0 ≡ 1). omega arith)) (or→ r.2))

  pub unbegun_unwritten : (x : ℕ) → writer log x t ≡ false
  unfolding writer writes
  unbegun_unwritten x = to_false _ (λ q. let r = some→ q in let w = and→ (and→ r.2).0 in let k : kind log r.0 ≡ 3 = is→ w.0 in silent r.0 r.1 (is→ w.1) (λ (z : kind log r.0 ≡ 1). omega arith))

  pub unbegun_unread : (x : ℕ) → reads_first log x t ≡ false
  unfolding reads_first reads
  unbegun_unread x = to_false _ (λ q. let r = some→ q in let w = and→ (and→ (and→ r.2).0).0 in let k : kind log r.0 ≡ 2 = is→ w.0 in silent r.0 r.1 (is→ w.1) (λ (z : kind log r.0 ≡ 1). omega arith))

  pub unbegun_right : misreads log t ≡ false
  unfolding misreads reads
  unbegun_right = to_false _ (λ q. let r = some→ q in let w = and→ (and→ r.2).0 in let k : kind log r.0 ≡ 2 = is→ w.0 in silent r.0 r.1 (is→ w.1) (λ (z : kind log r.0 ≡ 1). omega arith))

module _ {most k t x s : ℕ} {log log' : List ℕ} (ok : Accepted most log) (good : Good most log k t x) (g : Grows log k t x s log') where
  new : committed log t ≡ false
  new = good_uncommitted ok good

  -- numbers reached
  pub passed_grows : (u : ℕ) → passed log' u ≡ (passed log u or (k is 1 and u upto t))
  unfolding passed
  passed_grows u = some_grows g (λ i. kind log i is 1 and u upto tx log i) _ (λ i h. rw (g.kinds i h, g.txs i h) refl) ∙ rw (g.kind_here, g.tx_here) refl

  -- what a transaction sees stays; who begins sees the last writers of now
  pub seen_same : (u y : ℕ) → begun log (steps log) u ≡ true → seen log' u y ≡ seen log u y
  unfolding seen
  seen_same u y b =
      let l : begin_step log u < steps log = begin_before log (steps log) u (omega arith) b in
      rw (begin_step_same g u b) (last_same g new y (begin_step log u) (omega arith))

  pub seen_here : (y : ℕ) → k ≡ 1 → seen log' t y ≡ last_writer log (steps log) y
  unfolding seen
  seen_here y e = rw (begin_step_here g e (new_unbegun ok t (good.above e))) (last_same g new y (steps log) (omega arith))

  -- the last writers of now stay but for a commit, which makes its transaction the last writer of what it wrote
  pub last_stays : (y : ℕ) → (k ≡ 4 → ⊥) → last_writer log' (steps log') y ≡ last_writer log (steps log) y
  last_stays y n = rw g.size (writer_before log' y (steps log) no ∙ last_same g new y (steps log) (omega arith))
    where
      no : commits_writer log' y (steps log) ≡ false
      no = unfold commits_writer in (and_no_left _ (→isnt (λ (q : kind log' (steps log) ≡ 4). n (sym g.kind_here ∙ q))))

  pub last_commits : (y : ℕ) → k ≡ 4 → last_writer log' (steps log') y ≡ (provided writer log y t then t else last_writer log (steps log) y)
  last_commits y e = rw g.size (go (decide (writer log y t)))
    where
      same : writer log' y t ≡ writer log y t
      same = writer_grows g y t ∙ or_no _ (and_no_left _ (and_no_left _ (→isnt (λ (q : k ≡ 3). omega arith))))

      here : commits_writer log' y (steps log) ≡ writer log y t
      here = unfold commits_writer in (rw g.tx_here (and_true (→is (g.kind_here ∙ e)) ∙ same))

      go : (writer log y t ≡ true) ⊎ (writer log y t ≡ false) → last_writer log' (suc (steps log)) y ≡ (provided writer log y t then t else last_writer log (steps log) y)
      go (inl w) = writer_here log' y (steps log) (here ∙ w) ∙ g.tx_here ∙ sym (provided_true _ _ w)
      go (inr w) = writer_before log' y (steps log) (here ∙ w) ∙ last_same g new y (steps log) (omega arith) ∙ sym (provided_false _ _ w)

  -- what a read should name
  pub wanted_here : k ≡ 2 → source_wanted log' (steps log) ≡ (provided writer log x t then t else seen log t x)
  unfolding writer seen
  wanted_here e =
      let b : begun log (steps log) t ≡ true = (open→ log t (good.alive (λ (q : k ≡ 1). omega arith))).0 in
      let l : begin_step log t < steps log = begin_before log (steps log) t (omega arith) b in
      let w : wrote log' (steps log) t x ≡ wrote log (steps log) t x = wrote_same g (steps log) (omega arith) t x in
      let z : last_writer log' (begin_step log t) x ≡ last_writer log (begin_step log t) x = last_same g new x (begin_step log t) (omega arith) in
      rw (wanted_is log' (steps log), g.tx_here, g.obj_here, begin_step_same g t b, w, z) (unfold wrote in refl)

  -- wrong reads
  pub misreads_grows : (u : ℕ) → misreads log' u ≡ (misreads log u or (k is 2 and t is u and fails (s is source_wanted log' (steps log))))
  unfolding misreads reads
  misreads_grows u = some_grows g (λ i. kind log i is 2 and tx log i is u and fails (src log i is source_wanted log i)) _ same ∙ rw (g.kind_here, g.tx_here, g.src_here) refl
    where
      same : (i : ℕ) → i < steps log → (kind log' i is 2 and tx log' i is u and fails (src log' i is source_wanted log' i)) ≡ (kind log i is 2 and tx log i is u and fails (src log i is source_wanted log i))
      same i h = rw (g.kinds i h, g.txs i h, g.srcs i h) (go (decide (kind log i is 2)))
        where
          go : ((kind log i is 2) ≡ true) ⊎ ((kind log i is 2) ≡ false) → (kind log i is 2 and tx log i is u and fails (src log i is source_wanted log' i)) ≡ (kind log i is 2 and tx log i is u and fails (src log i is source_wanted log i))
          go (inl e) = let q : kind log i ≡ 2 = is→ e in rw (wanted_same g new i h (ok.has_begun i h (λ (z : kind log i ≡ 1). omega arith))) refl
          go (inr e) = and_no_left _ (and_no_left _ e) ∙ sym (and_no_left _ (and_no_left _ e))

  -- who is open
  pub open_inside : (k ≡ 1 → ⊥) → (k ≡ 4 → ⊥) → (k ≡ 5 → ⊥) → (u : ℕ) → is_open log' u ≡ is_open log u
  unfolding is_open
  open_inside a b c u =
      let p : begun log' (steps log') u ≡ begun log (steps log) u = begun_grows g u ∙ or_no _ (and_no_left _ (→isnt a)) in
      let q : ended log' (steps log') u ≡ ended log (steps log) u = ended_grows g u ∙ or_no _ (or_no _ (and_no_left _ (→isnt c)) ∙ and_no_left _ (→isnt b)) in
      rw (p, q) refl

  pub open_new : k ≡ 1 → is_open log' t ≡ true
  unfolding is_open
  open_new e =
      →and (begun_grows g t ∙ →or_right _ (→and (→is e) (→is refl)))
      (→fails (ended_grows g t ∙ or_no _ (or_no _ (and_no_left _ (→isnt (λ (q : k ≡ 5). omega arith))) ∙ and_no_left _ (→isnt (λ (q : k ≡ 4). omega arith))) ∙ unbegun_unended ok t (new_unbegun ok t (good.above e))))

  pub open_ended : (k ≡ 4) ⊎ (k ≡ 5) → is_open log' t ≡ false
  open_ended e = to_false _ (λ o. not_both (ended_grows g t ∙ →or_right _ (⊎_elim (λ q. →or_left _ (→and (→is q) (→is refl))) (λ q. →or_right _ (→and (→is q) (→is refl))) e)) (open→ log' t o).1)
