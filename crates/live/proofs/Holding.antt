-- The rows hold the steps accepted, one step later.
use mathlib.Core.Path.{◌≡◌, refl, sym, ap, subst, ◌∙◌}
use mathlib.Core.Bool.{Bool, true, false}
use mathlib.Core.Logic.{◌⊎◌, inl, inr, ⊎_elim}
use mathlib.Core.List.{List}
use Prim.Native.Nat.{ℕ, ◌≤◌, ◌<◌}
use native.Mathlib.Omega.{arith}
use Rattle.words.specs.Tests.{◌is◌, ◌upto◌, ◌and◌, ◌or◌, provided◌then◌else◌, some}
use Rattle.words.proofs.Truth.{decide, not_both, to_false, and_no_left, and_no_right, and_true, →or_left, or_no, or_false, is→, →is, isnt→, →isnt, upto→, not_upto→, provided_true, provided_false}
use Rattle.graph.specs.Matrix.{in_row}
use Rattle.verdict.specs.Limits.{objects}
use Rattle.verdict.specs.Log.{steps, committed, writer, commit_step}
use Rattle.live.specs.SoFar.{numbers, is_open, passed}
use Rattle.live.specs.Breach.{breached}
use Rattle.live.specs.Closed.{closed}
use Rattle.live.specs.Kept.{places}
use Rattle.live.specs.Inner.Accepted.{Whole, Accepted}
use Rattle.live.specs.Inner.Chain.{chain_edge, passed_by}
use Rattle.live.specs.Inner.Table.{Table, Sized, name_at, status_at, sees_at, until_at, open_at, writes_at, reads_at}
use Rattle.live.specs.Inner.Held.{Row, Place, Held, Keeping}
use Rattle.live.proofs.Grows.{Grows, commit_step_same, commit_step_here}
use Rattle.live.proofs.Accepted.{Good, open→, committed_range, commit_step_is, good_uncommitted, accepted_grows}
use Rattle.live.proofs.StepFacts.{open_other, passed_grows, last_stays, last_commits}
use Rattle.live.proofs.Breaches.{breached_same}
use Rattle.live.proofs.SeenGrows.{committed_same, committed_other, edge_same}
use Rattle.live.proofs.ChainGrows.{into_on, out_on, chain_ends, chain_same, chain_others, chain_into, chain_out}
use Rattle.live.proofs.Begins.{passed_now, passed_same}
use Rattle.live.proofs.Shut.{begun_range}
use Rattle.live.proofs.PlaceLaws.{one_up}
use Rattle.live.proofs.Cycles.{no_edge_new, closed_alike}
use Rattle.live.proofs.RowSteps.{row_as, row_other}

-- places and their transactions
module _ {log : List ℕ} {top count : ℕ} {b : Table} (h : Held log top count b) where
  -- nobody has number 0
  pub none_committed : (v : ℕ) → v ≡ 0 → committed log v ≡ false
  none_committed v e = to_false _ (λ c. let l : 1 ≤ v = (committed_range h.accepted v c).0 in omega arith)

  pub none_open : (v : ℕ) → v ≡ 0 → is_open log v ≡ false
  none_open v e = to_false _ (λ o. let l : 1 ≤ v = (begun_range h.accepted v (open→ log v o).0).0 in omega arith)

  pub no_edge_there : (u v : ℕ) → (u ≡ 0) ⊎ (v ≡ 0) → chain_edge log u v ≡ false
  no_edge_there u v e = to_false _ (λ c. let r = chain_ends log u v c in ⊎_elim (λ z. not_both r.0 (none_committed u z)) (λ z. not_both r.1 (none_committed v z)) e)

  pub wide : (p : ℕ) → Place count p → Place places p
  wide p u = (u.0, omega (arith, u.1, h.room))

  -- a place in use is among the first `count`
  pub used_low : (p : ℕ) → Place places p → 1 ≤ name_at b.rows p → Place count p
  used_low p u n = (u.0, ⊎_elim (λ (e : (p upto count) ≡ true). upto→ e) (λ (e : (p upto count) ≡ false). absurd (let z : name_at b.rows p ≡ 0 = h.beyond p (not_upto→ e) u.1 in omega arith)) (decide (p upto count)))

  -- whether the transaction at a place has committed
  pub done_is : (p : ℕ) → Place places p → (status_at b.rows p is 2) ≡ committed log (name_at b.rows p)
  done_is p u = go (decide (name_at b.rows p is 0))
    where
      go : ((name_at b.rows p is 0) ≡ true) ⊎ ((name_at b.rows p is 0) ≡ false) → (status_at b.rows p is 2) ≡ committed log (name_at b.rows p)
      go (inl e) = let z : status_at b.rows p ≡ 0 = h.free p u (is→ e) in →isnt (λ (w : status_at b.rows p ≡ 2). omega arith) ∙ sym (none_committed (name_at b.rows p) (is→ e))
      go (inr e) = (h.row p u (one_up (isnt→ e))).done

  pub open_there : (p t : ℕ) → 1 ≤ t → Place places p → open_at b.opened p ≡ t → (name_at b.rows p ≡ t) × (is_open log t ≡ true)
  open_there p t n u e = go (decide (is_open log (name_at b.rows p)))
    where
      go : (is_open log (name_at b.rows p) ≡ true) ⊎ (is_open log (name_at b.rows p) ≡ false) → (name_at b.rows p ≡ t) × (is_open log t ≡ true)
      go (inl o) = let z : name_at b.rows p ≡ t = sym (provided_true _ _ o) ∙ sym (h.opened p u) ∙ e in (z, subst (λ (v : ℕ). is_open log v ≡ true) z o)
      go (inr o) = let z : t ≡ 0 = sym e ∙ h.opened p u ∙ provided_false _ _ o in absurd (omega arith)

  module _ {keeps : ℕ → Bool} (m : Keeping log b keeps) where
    pub there_open : (t : ℕ) → is_open log t ≡ true → (p : ℕ) × Place count p × (open_at b.opened p ≡ t)
    there_open t o =
        let r = m.placed t (→or_left _ o) in
        let z : name_at b.rows r.0 ≡ t = r.2 in
        let l : 1 ≤ t = (begun_range h.accepted t (open→ log t o).0).0 in
        (r.0, used_low r.0 r.1 (omega arith), h.opened r.0 r.1 ∙ provided_true _ _ (subst (λ (v : ℕ). is_open log v ≡ true) (sym z) o) ∙ z)

    pub not_open : (t : ℕ) → ((p : ℕ) → Place count p → open_at b.opened p ≡ t → ⊥) → is_open log t ≡ false
    not_open t n = to_false _ (λ o. let r = there_open t o in n r.0 r.1 r.2)

-- from whom edges lead to t when it commits, and to whom they lead from it, by places
pub record AtCommit (log : List ℕ) (name : ℕ → ℕ) (t : ℕ) (into out : ℕ → Bool) : Type 0 where
  pub into_it : (q : ℕ) → Place places q → into q ≡ (committed log (name q) and some objects (into_on log (name q) t))
  pub out_of : (q : ℕ) → Place places q → out q ≡ (committed log (name q) and some objects (out_on log t (name q)))
  pub inside : (q : ℕ) → (into q ≡ true) ⊎ (out q ≡ true) → Place places q

-- at most the row of place p, and its entry among the open ones, is another
pub record Touched (b b' : Table) (p : ℕ) : Type 0 where
  pub sizes : Sized b'
  pub names : (q : ℕ) → Place places q → name_at b'.rows q ≡ name_at b.rows q
  pub statuses : (q : ℕ) → Place places q → (q ≡ p → ⊥) → status_at b'.rows q ≡ status_at b.rows q
  pub seeings : (q : ℕ) → Place places q → (x : ℕ) → x < objects → sees_at b'.rows q x ≡ sees_at b.rows q x
  pub untils : (q : ℕ) → Place places q → (q ≡ p → ⊥) → until_at b'.rows q ≡ until_at b.rows q
  pub writings : (q : ℕ) → Place places q → (q ≡ p → ⊥) → writes_at b'.marks q ≡ writes_at b.marks q
  pub readings : (q : ℕ) → Place places q → (q ≡ p → ⊥) → reads_at b'.marks q ≡ reads_at b.marks q
  pub opens : (q : ℕ) → Place places q → (q ≡ p → ⊥) → open_at b'.opened q ≡ open_at b.opened q

module _ {log log' : List ℕ} {top count k t x s : ℕ} {b : Table} (h : Held log top count b) (good : Good numbers log k t x) (g : Grows log k t x s log') (whole : Whole log')
    (p : ℕ) (u : Place places p) (is_t : name_at b.rows p ≡ t) where
  ok' : Accepted numbers log'
  ok' = accepted_grows h.accepted good g whole

  -- the transaction of another place
  other : (q : ℕ) → Place places q → (q ≡ p → ⊥) → t ≡ name_at b.rows q → ⊥
  other q v d e = d (sym (h.once p q u v (subst (λ (z : ℕ). 1 ≤ z) (sym is_t) good.in_range.0) (is_t ∙ e)))

  module _ {b' : Table} (c : Touched b b' p) (row : Row log' t (status_at b'.rows p) (sees_at b'.rows p) (writes_at b'.marks p) (reads_at b'.marks p))
      (opened : open_at b'.opened p ≡ (provided is_open log' t then t else 0)) (no_begin : k ≡ 1 → ⊥) where
    rows_later : (q : ℕ) → Place places q → 1 ≤ name_at b'.rows q → Row log' (name_at b'.rows q) (status_at b'.rows q) (sees_at b'.rows q) (writes_at b'.marks q) (reads_at b'.marks q)
    rows_later q v n = go (decide (q is p))
      where
        go : ((q is p) ≡ true) ⊎ ((q is p) ≡ false) → Row log' (name_at b'.rows q) (status_at b'.rows q) (sees_at b'.rows q) (writes_at b'.marks q) (reads_at b'.marks q)
        go (inl e) =
            let z : q ≡ p = is→ e in
            row_as row (c.names q v ∙ ap (name_at b.rows) z ∙ is_t) (ap (status_at b'.rows) z) (λ y l. ap (λ (w : ℕ). sees_at b'.rows w y) z) (ap (writes_at b'.marks) z) (ap (reads_at b'.marks) z)
        go (inr e) =
            let d : q ≡ p → ⊥ = isnt→ e in
            row_as (row_other h.accepted good g (other q v d) (h.row q v (subst (λ (z : ℕ). 1 ≤ z) (c.names q v) n))) (c.names q v) (c.statuses q v d) (c.seeings q v) (c.writings q v d) (c.readings q v d)

    opened_later : (q : ℕ) → Place places q → open_at b'.opened q ≡ (provided is_open log' (name_at b'.rows q) then name_at b'.rows q else 0)
    opened_later q v = go (decide (q is p))
      where
        go : ((q is p) ≡ true) ⊎ ((q is p) ≡ false) → open_at b'.opened q ≡ (provided is_open log' (name_at b'.rows q) then name_at b'.rows q else 0)
        go (inl e) = let z : q ≡ p = is→ e in let n : name_at b'.rows q ≡ t = c.names q v ∙ ap (name_at b.rows) z ∙ is_t in rw n (ap (open_at b'.opened) z ∙ opened)
        go (inr e) =
            let d : q ≡ p → ⊥ = isnt→ e in
            rw (c.names q v) (c.opens q v d ∙ h.opened q v ∙ ap (λ (o : Bool). provided o then name_at b.rows q else 0) (sym (open_other g (name_at b.rows q) (other q v d))))

    once_later : (q r : ℕ) → Place places q → Place places r → 1 ≤ name_at b'.rows q → name_at b'.rows q ≡ name_at b'.rows r → q ≡ r
    once_later q r v w n e = h.once q r v w (subst (λ (z : ℕ). 1 ≤ z) (c.names q v) n) (sym (c.names q v) ∙ e ∙ c.names r w)

    beyond_later : (q : ℕ) → count < q → q ≤ places → name_at b'.rows q ≡ 0
    beyond_later q l k = c.names q (omega arith, k) ∙ h.beyond q l k

    -- p is in use
    free_later : (q : ℕ) → Place places q → name_at b'.rows q ≡ 0 → status_at b'.rows q ≡ 0
    free_later q v e = c.statuses q v away ∙ h.free q v z
      where
        z : name_at b.rows q ≡ 0
        z = sym (c.names q v) ∙ e

        away : q ≡ p → ⊥
        away y = let l : 1 ≤ t = good.in_range.0 in let x : t ≡ 0 = sym is_t ∙ ap (name_at b.rows) (sym y) ∙ z in omega arith

    -- before the commit p has not committed
    open_later : (k ≡ 4 → ⊥) → status_at b'.rows p ≡ 2 → ⊥
    open_later n e = not_both (sym row.done ∙ →is e) (committed_same h.accepted good g n t ∙ good_uncommitted h.accepted good)

    bar_later : until_at b'.rows 0 ≤ until_at b.rows 0 → (status_at b'.rows p ≡ 2 → until_at b'.rows 0 ≤ until_at b'.rows p) → (q : ℕ) → Place places q → status_at b'.rows q ≡ 2 → until_at b'.rows 0 ≤ until_at b'.rows q
    bar_later low here q v e = go (decide (q is p))
      where
        go : ((q is p) ≡ true) ⊎ ((q is p) ≡ false) → until_at b'.rows 0 ≤ until_at b'.rows q
        go (inl z) = let y : q ≡ p = is→ z in subst (λ (i : ℕ). until_at b'.rows 0 ≤ until_at b'.rows i) (sym y) (here (ap (status_at b'.rows) (sym y) ∙ e))
        go (inr z) = let d : q ≡ p → ⊥ = isnt→ z in let l = h.bar q v (sym (c.statuses q v d) ∙ e) in let f : until_at b'.rows q ≡ until_at b.rows q = c.untils q v d in omega arith

    highest_later : (v : ℕ) → 1 ≤ v → passed log' v ≡ (v upto top)
    highest_later v l = passed_grows h.accepted good g v ∙ or_no _ (and_no_left _ (→isnt no_begin)) ∙ h.highest v l

    -- who had begun when one of before committed
    until_stays : (q : ℕ) → Place places q → committed log (name_at b.rows q) ≡ true → (v : ℕ) → 1 ≤ v → passed_by log' (commit_step log' (name_at b.rows q)) v ≡ (v upto until_at b.rows q)
    until_stays q w d v l = let e : commit_step log (name_at b.rows q) < steps log = (commit_step_is h.accepted (name_at b.rows q) d).0 in rw (commit_step_same g (name_at b.rows q) d) (passed_same g _ v (omega arith) ∙ h.until q w d v l)

    -- A READ, A WRITE, AN ABORT
    pub held_inside : (k ≡ 4 → ⊥) → b'.edges ≡ b.edges → ((y : ℕ) → y < objects → sees_at b'.rows 0 y ≡ sees_at b.rows 0 y) → until_at b'.rows p ≡ until_at b.rows p → until_at b'.rows 0 ≡ until_at b.rows 0 → Held log' top count b'
    held_inside no_commit same_edges same_last same_here same_bar =
        record {
          sized = c.sizes;
          accepted = ok';
          fine = fine;
          acyclic = closed_alike h.accepted ok' h.fine fine (edge_same h.accepted good g no_commit) ∙ h.acyclic;
          highest = highest_later;
          room = h.room;
          beyond = beyond_later;
          once = once_later;
          row = rows_later;
          free = free_later;
          opened = opened_later;
          last = λ y l. same_last y l ∙ h.last y l ∙ sym (last_stays h.accepted good g y no_commit);
          until = λ q v d w l. rw (c.names q v) (until_stays q v (sym (committed_same h.accepted good g no_commit (name_at b.rows q)) ∙ (rw (c.names q v) at d)) w l ∙ ap (λ (z : ℕ). w upto z) (sym (same_until q v)));
          bar = bar_later (omega (arith, same_bar)) (λ e. absurd (open_later no_commit e));
          edges = λ q r v w. rw (same_edges, c.names q v, c.names r w) (h.edges q r v w ∙ sym (chain_same h.accepted good g no_commit (name_at b.rows q) (name_at b.rows r)));
        }
      where
        fine : breached numbers log' ≡ false
        fine = breached_same h.accepted good g whole no_commit ∙ h.fine

        same_until : (q : ℕ) → Place places q → until_at b'.rows q ≡ until_at b.rows q
        same_until q v = ⊎_elim (λ (e : (q is p) ≡ true). rw (is→ {m = q} {n = p} e) same_here) (λ (e : (q is p) ≡ false). c.untils q v (isnt→ e)) (decide (q is p))

    -- A COMMIT without breach that closes no cycle
    module _ (commit : k ≡ 4) {into out : ℕ → Bool} (new : AtCommit log (name_at b.rows) t into out)
        (edges : (q r : ℕ) → in_row b'.edges r q ≡ (in_row b.edges r q or (r is p and into q) or (q is p and out r))) where
      -- t itself had no edge before, and no edge leads from it to itself
      gone : (v : ℕ) (o : Bool) → v ≡ t → (committed log v and o) ≡ false
      gone v o e = and_no_left o (rw e (good_uncommitted h.accepted good))

      module _ (q r : ℕ) (v : Place places q) (w : Place places r) where
        abbrev Q : ℕ
        Q = name_at b.rows q

        abbrev R : ℕ
        R = name_at b.rows r

        at : (z : ℕ) → (z is p) ≡ true → name_at b.rows z ≡ t
        at z e = ap (name_at b.rows) (is→ {m = z} {n = p} e) ∙ is_t

        away : (z : ℕ) → Place places z → (z is p) ≡ false → t ≡ name_at b.rows z → ⊥
        away z y e = other z y (isnt→ e)

        edge_cases : ((q is p) ≡ true) ⊎ ((q is p) ≡ false) → ((r is p) ≡ true) ⊎ ((r is p) ≡ false) → (chain_edge log Q R or (r is p and into q) or (q is p and out r)) ≡ chain_edge log' Q R
        edge_cases (inl e) (inl f) =
            or_no _ (and_no_right _ (new.out_of r w ∙ gone R _ (at r f))) ∙ or_no _ (and_no_right _ (new.into_it q v ∙ gone Q _ (at q e))) ∙ no_edge_new h.accepted good Q R (inl (at q e))
            ∙ sym (to_false _ (λ z. (chain_ends log' Q R z).2 (at q e ∙ sym (at r f))))
        edge_cases (inl e) (inr f) =
            ap (λ (o : Bool). o or (q is p and out r)) (or_no _ (and_no_left _ f) ∙ no_edge_new h.accepted good Q R (inl (at q e))) ∙ or_false refl ∙ and_true e ∙ new.out_of r w
            ∙ rw (at q e) (sym (chain_out h.accepted good g commit R (away r w f)))
        edge_cases (inr e) (inl f) =
            or_no _ (and_no_left _ e) ∙ ap (λ (o : Bool). o or (r is p and into q)) (no_edge_new h.accepted good Q R (inr (at r f))) ∙ or_false refl ∙ and_true f ∙ new.into_it q v
            ∙ rw (at r f) (sym (chain_into h.accepted good g commit Q (away q v e)))
        edge_cases (inr e) (inr f) = or_no _ (and_no_left _ e) ∙ or_no _ (and_no_left _ f) ∙ sym (chain_others h.accepted good g Q R (away q v e) (away r w f))

        edge_later : in_row b'.edges r q ≡ chain_edge log' Q R
        edge_later = edges q r ∙ ap (λ (o : Bool). o or (r is p and into q) or (q is p and out r)) (h.edges q r v w) ∙ edge_cases (decide (q is p)) (decide (r is p))

      -- when t commits, the highest number begun is the highest one of now
      until_later : until_at b'.rows p ≡ top → (q : ℕ) → Place places q → committed log' (name_at b.rows q) ≡ true → (v : ℕ) → 1 ≤ v → passed_by log' (commit_step log' (name_at b.rows q)) v ≡ (v upto until_at b'.rows q)
      until_later here q w d v l = go (decide (q is p))
        where
          go : ((q is p) ≡ true) ⊎ ((q is p) ≡ false) → passed_by log' (commit_step log' (name_at b.rows q)) v ≡ (v upto until_at b'.rows q)
          go (inl e) =
              let z : q ≡ p = is→ e in
              rw (z, is_t, commit_step_here g commit (good_uncommitted h.accepted good), here) (passed_same g (steps log) v (omega arith) ∙ passed_now log v ∙ h.highest v l)
          go (inr e) =
              let n : q ≡ p → ⊥ = isnt→ e in
              until_stays q w (sym (committed_other h.accepted good g (name_at b.rows q) (other q w n)) ∙ d) v l ∙ ap (λ (z : ℕ). v upto z) (sym (c.untils q w n))

      pub held_commit : breached numbers log' ≡ false → closed numbers log' ≡ false → until_at b'.rows p ≡ top → (until_at b'.rows 0 ≤ top) × (until_at b'.rows 0 ≤ until_at b.rows 0) → ((y : ℕ) → y < objects → sees_at b'.rows 0 y ≡ (provided writer log y t then t else sees_at b.rows 0 y)) → Held log' top count b'
      held_commit fine acyclic here bar newer =
          record {
            sized = c.sizes;
            accepted = ok';
            fine = fine;
            acyclic = acyclic;
            highest = highest_later;
            room = h.room;
            beyond = beyond_later;
            once = once_later;
            row = rows_later;
            free = free_later;
            opened = opened_later;
            last = λ y l. newer y l ∙ ap (λ (z : ℕ). provided writer log y t then t else z) (h.last y l) ∙ sym (last_commits h.accepted good g y commit);
            until = λ q v d w l. rw (c.names q v) (until_later here q v (rw (c.names q v) at d) w l);
            bar = bar_later bar.1 (λ _. omega (arith, bar.0, here));
            edges = λ q r v w. rw (c.names q v, c.names r w) (edge_later q r v w);
          }
