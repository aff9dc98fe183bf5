-- Who can go, read off the rows; and what is left after whoever could go was forgotten.
use mathlib.Core.Path.{◌≡◌, refl, sym, subst, ◌∙◌}
use mathlib.Core.Bool.{Bool, true, false}
use mathlib.Core.Logic.{◌⊎◌, inl, inr, ⊎_elim}
use mathlib.Core.List.{List}
use Prim.Native.Nat.{ℕ, suc, ◌≤◌, ◌<◌}
use native.Mathlib.Omega.{arith}
use Rattle.words.specs.Tests.{◌is◌, ◌below◌, ◌upto◌, ◌and◌, fails}
use Rattle.words.proofs.Truth.{decide, not_both, to_false, same_test, and→, →and, and_true_right, and_no_left, or→, →or_right, fails→, →fails, is→, →is, isnt→, →isnt, below→, →below, upto→, →upto, provided_false, some→, →some}
use Rattle.graph.specs.Matrix.{in_row}
use Rattle.graph.specs.Reach.{Way, stay, onward, row_edge}
use Rattle.verdict.specs.Log.{steps, committed, begin_step, commit_step}
use Rattle.live.specs.SoFar.{numbers, is_open}
use Rattle.live.specs.Forgotten.{overlapped, may_go, Rests}
use Rattle.live.specs.Kept.{places}
use Rattle.live.specs.Inner.Seen.{seen_edge}
use Rattle.live.specs.Inner.Table.{Table, Sized, name_at, until_at, open_at}
use Rattle.live.specs.Inner.Held.{Place, Held, Keeping}
use Rattle.live.specs.Inner.Forgetting.{LeastOpen, still_overlapped, can_go, freed, Leaves}
use Rattle.live.proofs.Accepted.{open→, committed_range, commit_step_is, open_uncommitted}
use Rattle.live.proofs.Begins.{passed_begun}
use Rattle.live.proofs.ChainEdges.{chain_way, seen_chain}
use Rattle.live.proofs.ChainGrows.{chain_ends}
use Rattle.live.proofs.Shut.{begun_range}
use Rattle.live.proofs.Forgetting.{forgets_committed}
use Rattle.live.proofs.ForgetGrows.{overlapped→, →overlapped, may_go→, →may_go, edge_kept}
use Rattle.live.proofs.Holding.{open_there, there_open, done_is, wide, used_low}
use Rattle.live.proofs.Committing.{edge_names}
use Rattle.live.proofs.HeldFreed.{GivenBack, freed_size, name_gone, name_stays, held_freed}
use Rattle.live.proofs.KeepingLaws.{keeping_forgot}

module _ {log : List ℕ} {top count : ℕ} {b : Table} {keeps : ℕ → Bool} (h : Held log top count b) (m : Keeping log b keeps) where
  -- a committed transaction that has a place is kept
  done_kept : (p : ℕ) → Place places p → committed log (name_at b.rows p) ≡ true → keeps (name_at b.rows p) ≡ true
  done_kept p u c =
      ⊎_elim (λ o. absurd (not_both c (open_uncommitted h.accepted (name_at b.rows p) o))) (λ k. k)
      (or→ (m.only p u (committed_range h.accepted (name_at b.rows p) c).0))

  -- WHO OVERLAPPED IT HAS ENDED: the lowest number open tells it
  module _ (p : ℕ) (u : Place places p) (c : committed log (name_at b.rows p) ≡ true) where
    began_before : (t : ℕ) → is_open log t ≡ true → (t upto until_at b.rows p) ≡ (begin_step log t below commit_step log (name_at b.rows p))
    began_before t e =
        let g = (open→ log t e).0 in
        let l : commit_step log (name_at b.rows p) < steps log = (commit_step_is h.accepted (name_at b.rows p) c).0 in
        sym (h.until p u c t (begun_range h.accepted t g).0) ∙ passed_begun h.accepted t g (commit_step log (name_at b.rows p)) (omega arith)

    pub overlapped_is : {least : ℕ} → LeastOpen b.opened count least → still_overlapped b.rows least p ≡ overlapped numbers log (name_at b.rows p)
    unfolding still_overlapped
    overlapped_is {least} o = same_test forth back
      where
        forth : (1 upto least and least upto until_at b.rows p) ≡ true → overlapped numbers log (name_at b.rows p) ≡ true
        forth e =
            let a = and→ e in
            let r = o.there (upto→ a.0) in
            let t = (open_there h r.0 least (upto→ a.0) (wide h r.0 r.1) r.2).1 in
            →overlapped h.accepted (name_at b.rows p) least t (below→ (sym (began_before least t) ∙ a.1))

        back : overlapped numbers log (name_at b.rows p) ≡ true → (1 upto least and least upto until_at b.rows p) ≡ true
        back e =
            let r = overlapped→ h.accepted (name_at b.rows p) e in
            let q = there_open h m r.0 r.1 in
            let z : 1 ≤ r.0 = (begun_range h.accepted r.0 (open→ log r.0 r.1).0).0 in
            let w : open_at b.opened q.0 ≡ r.0 = q.2 in
            let l = o.least q.0 q.1 (omega arith) in
            let v : r.0 ≤ until_at b.rows p = upto→ (began_before r.0 r.1 ∙ →below r.2) in
            →and (→upto l.0) (→upto (omega (arith, l.1)))

  -- NO KEPT ONE HAS AN EDGE TO IT: no place is marked in its row
  module _ (p : ℕ) (u : Place places p) where
    -- the last edge of a way from a kept one
    last_edge : {a c : ℕ} → Way (seen_edge log) a c → keeps a ≡ true → (a ≡ c → ⊥) → (q : ℕ) × (keeps q ≡ true) × (seen_edge log q c ≡ true)
    last_edge stay k d = absurd (d refl)
    last_edge (onward {a} {b = e} {c} f w) k d = go (decide (e is c)) (last_edge w (edge_kept h.accepted h.fine m.forgot a e k f))
      where
        go : ((e is c) ≡ true) ⊎ ((e is c) ≡ false) → ((e ≡ c → ⊥) → (q : ℕ) × (keeps q ≡ true) × (seen_edge log q c ≡ true)) → (q : ℕ) × (keeps q ≡ true) × (seen_edge log q c ≡ true)
        go (inl z) rec = (a, k, subst (λ (v : ℕ). seen_edge log a v ≡ true) (is→ z) f)
        go (inr z) rec = rec (isnt→ z)

    marked_pointed : (a : ℕ) → in_row b.edges p a ≡ true → (q : ℕ) × (keeps q ≡ true) × (seen_edge log q (name_at b.rows p) ≡ true)
    marked_pointed a e =
        let r = edge_names h a p (unfold row_edge in e) in
        let s = chain_ends log _ _ r.2 in
        last_edge (chain_way h.accepted h.fine _ _ r.2) (done_kept a r.0 s.0) s.2

    pointed_marked : (q : ℕ) → keeps q ≡ true → seen_edge log q (name_at b.rows p) ≡ true → (a : ℕ) × (a < 129) × (in_row b.edges p a ≡ true)
    pointed_marked q k e =
        let r = m.placed q (→or_right _ k) in
        (r.0, omega (arith, r.1.1), h.edges r.0 p r.1 u ∙ (rw r.2 (seen_chain h.accepted h.fine q (name_at b.rows p) e)))

    -- WHO CAN GO, by the rows and by the log
    module _ {least : ℕ} (o : LeastOpen b.opened count least) where
      pub can_go→ : can_go b.rows b.edges least p ≡ true → (keeps (name_at b.rows p) ≡ true) × (may_go numbers log keeps (name_at b.rows p) ≡ true)
      unfolding can_go
      can_go→ e =
          let a = and→ e in
          let d = and→ a.0 in
          let c : committed log (name_at b.rows p) ≡ true = sym (done_is h p u) ∙ d.0 in (
            done_kept p u c,
            →may_go h.accepted h.fine keeps (name_at b.rows p)
                (record {
                  over = sym (overlapped_is p u c o) ∙ fails→ d.1;
                  apart = λ q k f. let r = pointed_marked q k f in not_both (→some (in_row b.edges p) r.0 r.1 r.2) (fails→ a.1);
                }),
          )

      pub →can_go : keeps (name_at b.rows p) ≡ true → may_go numbers log keeps (name_at b.rows p) ≡ true → can_go b.rows b.edges least p ≡ true
      unfolding can_go
      →can_go k g =
          let c = forgets_committed m.forgot (name_at b.rows p) k in
          let f = may_go→ h.accepted h.fine keeps (name_at b.rows p) g in
          →and (→and (done_is h p u ∙ c) (→fails (overlapped_is p u c o ∙ f.over))) (→fails (to_false _ (λ e. let r = some→ e in let q = marked_pointed r.0 r.2 in f.apart q.0 q.1 q.2)))

      -- ONE IS FORGOTTEN
      module _ (goes : can_go b.rows b.edges least p ≡ true) {edges' : List ℕ} (c : Leaves b.edges p (suc count) edges') (sizes : Sized b) where
        abbrev Left : Table
        Left = record { opened = b.opened; rows = freed b.rows p; marks = b.marks; edges = edges' }

        f : (keeps (name_at b.rows p) ≡ true) × (may_go numbers log keeps (name_at b.rows p) ≡ true)
        f = can_go→ goes

        done : committed log (name_at b.rows p) ≡ true
        done = forgets_committed m.forgot (name_at b.rows p) f.0

        -- nobody is marked in its row, and it is taken out of the others: behind the first `count` places there is nobody
        no_mark : (q w : ℕ) → Place places q → Place places w → (q ≡ p) ⊎ (w ≡ p) → in_row edges' w q ≡ false
        unfolding can_go
        no_mark q w x y (inr e) = to_false _ (λ z. not_both (→some (in_row b.edges p) q (omega (arith, x.1)) (subst (λ (i : ℕ). in_row b.edges i q ≡ true) e (and→ (sym (c.each w q) ∙ z)).0)) (fails→ (and→ goes).1))
        no_mark q w x y (inl e) = to_false _ (λ z.
            let a = and→ (sym (c.each w q) ∙ z) in
            let s = chain_ends log _ _ (sym (h.edges q w x y) ∙ a.0) in
            let l = (used_low h w y (committed_range h.accepted _ s.1).0).1 in
            not_both (→and (→is e) (→below (omega arith))) (fails→ a.1))

        given_back : GivenBack b Left p
        given_back =
            record {
              sizes = record { opened = sizes.opened; rows = freed_size b.rows p sizes.rows u.1; marks = sizes.marks; edges = c.size ∙ sizes.edges };
              rows = refl;
              marks = refl;
              opens = λ q v d. refl;
              opened = h.opened p u ∙ provided_false _ _ (to_false _ (λ o. not_both done (open_uncommitted h.accepted _ o)));
              edges = λ q w d e. c.each w q ∙ and_true_right _ (→fails (and_no_left _ (→isnt d)));
              none = no_mark;
            }

        pub forgotten_held : Held log top count Left
        forgotten_held = held_freed h u given_back

        pub forgotten_kept : Keeping log Left (λ v. keeps v and fails (v is name_at b.rows p))
        forgotten_kept = keeping_forgot h m _ u refl f.0 f.1 (name_gone h u given_back) (name_stays h u given_back)

  -- NOTHING CAN GO where somebody is open who overlapped all that are kept
  pub held_by : (w : ℕ) → Place count w → 1 ≤ open_at b.opened w → open_at b.opened w ≤ until_at b.rows 0 → Rests numbers log keeps
  held_by w v low high t k = to_false _ (λ g.
      let r = m.placed t (→or_right _ k) in
      let z : name_at b.rows r.0 ≡ t = r.2 in
      let c : committed log (name_at b.rows r.0) ≡ true = subst (λ (i : ℕ). committed log i ≡ true) (sym z) (forgets_committed m.forgot t k) in
      let o = (open_there h w (open_at b.opened w) low (wide h w v) refl).1 in
      let l = h.bar r.0 r.1 (is→ (done_is h r.0 r.1 ∙ c)) in
      let f : overlapped numbers log (name_at b.rows r.0) ≡ true = →overlapped h.accepted _ (open_at b.opened w) o (below→ (sym (began_before r.0 r.1 c (open_at b.opened w) o) ∙ →upto (omega arith))) in
      not_both (subst (λ (i : ℕ). overlapped numbers log i ≡ true) z f) (may_go→ h.accepted h.fine keeps t g).over)

  -- NOTHING MORE CAN GO where no place can
  pub none_can_go : {least : ℕ} → LeastOpen b.opened count least → ((q : ℕ) → Place count q → can_go b.rows b.edges least q ≡ false) → Rests numbers log keeps
  none_can_go o none t k = to_false _ (λ g.
      let r = m.placed t (→or_right _ k) in
      let l : 1 ≤ t = (committed_range h.accepted t (forgets_committed m.forgot t k)).0 in
      let z : name_at b.rows r.0 ≡ t = r.2 in
      not_both (→can_go r.0 r.1 o (subst (λ (v : ℕ). keeps v ≡ true) (sym z) k) (subst (λ (v : ℕ). may_go numbers log keeps v ≡ true) (sym z) g))
      (none r.0 (used_low h r.0 r.1 (omega arith))))
