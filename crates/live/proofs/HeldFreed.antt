-- The rows hold the steps accepted, after a place was given back: what they say of the other places is as right as before.
use mathlib.Core.Path.{◌≡◌, refl, sym, ap, subst, ◌∙◌}
use mathlib.Core.Bool.{true, false}
use mathlib.Core.Logic.{◌⊎◌, inl, inr, ⊎_elim}
use mathlib.Core.List.{List}
use Prim.Native.Nat.{ℕ, ◌+◌, ◌*◌, ◌≤◌, ◌<◌}
use native.Mathlib.Omega.{arith}
use lib.ListN.{length, set, length-set}
use Rattle.words.specs.Tests.{◌upto◌, provided◌then◌else◌}
use Rattle.words.proofs.Truth.{not_both, provided_false}
use Rattle.graph.specs.Matrix.{in_row}
use Rattle.verdict.specs.Limits.{objects}
use Rattle.verdict.specs.Log.{committed, commit_step}
use Rattle.live.specs.SoFar.{is_open}
use Rattle.live.specs.Kept.{places}
use Rattle.live.specs.Inner.Chain.{chain_edge, passed_by}
use Rattle.live.specs.Inner.Table.{Table, Sized, cell, name_at, status_at, sees_at, until_at, open_at, writes_at, reads_at}
use Rattle.live.specs.Inner.Held.{Row, Place, Held}
use Rattle.live.specs.Inner.Forgetting.{freed}
use Rattle.live.proofs.RowSteps.{row_as}
use Rattle.live.proofs.Cells.{stored_same, stored_other}
use Rattle.live.proofs.PlaceLaws.{here_or_not}
use Rattle.live.proofs.Holding.{none_committed, none_open, no_edge_there}

-- the entries of a row that is given back
module _ (rows : List ℕ) (p : ℕ) (size : length rows ≡ 8643) (high : p ≤ 128) where
  pub freed_size : length (freed rows p) ≡ 8643
  unfolding freed
  freed_size = length-set (set rows (p * 67) 0) (p * 67 + 1) 0 ∙ length-set rows (p * 67) 0 ∙ size

  pub freed_name : name_at (freed rows p) p ≡ 0
  unfolding freed name_at
  freed_name = stored_other (set rows (p * 67) 0) p 1 (p * 67 + 1) 0 p 0 refl (omega arith) (omega arith) (λ _ (z : ◌≡◌ {A = ℕ} 0 1). omega arith) ∙ stored_same rows p 0 (p * 67) 0 (omega arith) (omega arith)

  pub freed_status : status_at (freed rows p) p ≡ 0
  unfolding freed status_at
  freed_status = stored_same (set rows (p * 67) 0) p 1 (p * 67 + 1) 0 refl (let z : length (set rows (p * 67) 0) ≡ length rows = length-set rows (p * 67) 0 in omega arith)

  pub freed_cell : (q c : ℕ) → c < 67 → (q ≡ p → c ≡ 0 → ⊥) → (q ≡ p → c ≡ 1 → ⊥) → cell (freed rows p) q c ≡ cell rows q c
  unfolding freed
  freed_cell q c l m n = stored_other (set rows (p * 67) 0) p 1 (p * 67 + 1) 0 q c refl (omega arith) l n ∙ stored_other rows p 0 (p * 67) 0 q c (omega arith) (omega arith) l m

-- place p is given back: no edge is there any more
pub record GivenBack (b b' : Table) (p : ℕ) : Type 0 where
  pub sizes : Sized b'
  pub rows : b'.rows ≡ freed b.rows p
  pub marks : b'.marks ≡ b.marks
  pub opens : (q : ℕ) → Place places q → (q ≡ p → ⊥) → open_at b'.opened q ≡ open_at b.opened q
  pub opened : open_at b'.opened p ≡ 0
  pub edges : (q r : ℕ) → (q ≡ p → ⊥) → (r ≡ p → ⊥) → in_row b'.edges r q ≡ in_row b.edges r q
  pub none : (q r : ℕ) → Place places q → Place places r → (q ≡ p) ⊎ (r ≡ p) → in_row b'.edges r q ≡ false

module _ {log : List ℕ} {top count : ℕ} {b b' : Table} (h : Held log top count b) {p : ℕ} (u : Place places p) (c : GivenBack b b' p) where
  pub name_gone : name_at b'.rows p ≡ 0
  name_gone = ap (λ (r : List ℕ). name_at r p) c.rows ∙ freed_name b.rows p h.sized.rows u.1

  away : (q a : ℕ) → a < 67 → (q ≡ p → ⊥) → cell b'.rows q a ≡ cell b.rows q a
  away q a l d = ap (λ (r : List ℕ). cell r q a) c.rows ∙ freed_cell b.rows p h.sized.rows u.1 q a l (λ e _. d e) (λ e _. d e)

  pub name_stays : (q : ℕ) → (q ≡ p → ⊥) → name_at b'.rows q ≡ name_at b.rows q
  unfolding name_at
  name_stays q d = away q 0 (omega arith) d

  gone : (q : ℕ) → q ≡ p → name_at b'.rows q ≡ 0
  gone q e = ap (name_at b'.rows) e ∙ name_gone

  pub in_use_other : (q : ℕ) → 1 ≤ name_at b'.rows q → q ≡ p → ⊥
  in_use_other q n e = let z = gone q e in omega arith

  status_stays : (q : ℕ) → (q ≡ p → ⊥) → status_at b'.rows q ≡ status_at b.rows q
  unfolding status_at
  status_stays q d = away q 1 (omega arith) d

  sees_stay : (q : ℕ) → (q ≡ p → ⊥) → (x : ℕ) → x < objects → sees_at b'.rows q x ≡ sees_at b.rows q x
  unfolding sees_at
  sees_stay q d x l = away q (2 + x) (omega arith) d

  until_stays : (q : ℕ) → (q ≡ p → ⊥) → until_at b'.rows q ≡ until_at b.rows q
  unfolding until_at
  until_stays q d = away q 66 (omega arith) d

  pub held_freed : Held log top count b'
  held_freed =
      record {
        sized = c.sizes;
        accepted = h.accepted;
        fine = h.fine;
        acyclic = h.acyclic;
        highest = h.highest;
        room = h.room;
        beyond = λ q l m. ⊎_elim (λ e. gone q e) (λ d. name_stays q d ∙ h.beyond q l m) (here_or_not q p);
        once = λ q r v w n e. once q r v w n e;
        row = λ q v n. row q v n;
        free = λ q v e. ⊎_elim (λ (z : q ≡ p). ap (status_at b'.rows) z ∙ ap (λ (r : List ℕ). status_at r p) c.rows ∙ freed_status b.rows p h.sized.rows u.1) (λ d. status_stays q d ∙ h.free q v (sym (name_stays q d) ∙ e)) (here_or_not q p);
        opened = λ q v. opened q v;
        last = λ x l. sees_stay 0 (λ (e : 0 ≡ p). omega (arith, u.0)) x l ∙ h.last x l;
        until = λ q v d t l. until q v d t l;
        bar = bar;
        edges = λ q r v w. edges q r v w;
      }
    where
      once : (q r : ℕ) → Place places q → Place places r → 1 ≤ name_at b'.rows q → name_at b'.rows q ≡ name_at b'.rows r → q ≡ r
      once q r v w n e =
          let d = in_use_other q n in
          let f = in_use_other r (subst (λ (z : ℕ). 1 ≤ z) e n) in
          h.once q r v w (subst (λ (z : ℕ). 1 ≤ z) (name_stays q d) n) (sym (name_stays q d) ∙ e ∙ name_stays r f)

      row : (q : ℕ) → Place places q → 1 ≤ name_at b'.rows q → Row log (name_at b'.rows q) (status_at b'.rows q) (sees_at b'.rows q) (writes_at b'.marks q) (reads_at b'.marks q)
      row q v n =
          let d = in_use_other q n in
          row_as (h.row q v (subst (λ (z : ℕ). 1 ≤ z) (name_stays q d) n)) (name_stays q d) (status_stays q d) (sees_stay q d) (ap (λ (m : List ℕ). writes_at m q) c.marks) (ap (λ (m : List ℕ). reads_at m q) c.marks)

      opened : (q : ℕ) → Place places q → open_at b'.opened q ≡ (provided is_open log (name_at b'.rows q) then name_at b'.rows q else 0)
      opened q v =
          ⊎_elim (λ (e : q ≡ p). ap (open_at b'.opened) e ∙ c.opened ∙ sym (provided_false _ _ (none_open h _ (gone q e)))) (λ d. rw (name_stays q d) (c.opens q v d ∙ h.opened q v)) (here_or_not q p)

      until : (q : ℕ) → Place places q → committed log (name_at b'.rows q) ≡ true → (t : ℕ) → 1 ≤ t → passed_by log (commit_step log (name_at b'.rows q)) t ≡ (t upto until_at b'.rows q)
      until q v d t l =
          ⊎_elim (λ e. absurd (not_both d (none_committed h _ (gone q e)))) (λ n. rw (name_stays q n, until_stays q n) (h.until q v (rw (name_stays q n) at d) t l)) (here_or_not q p)

      bar : (q : ℕ) → Place places q → status_at b'.rows q ≡ 2 → until_at b'.rows 0 ≤ until_at b'.rows q
      bar q v e =
          ⊎_elim (λ (z : q ≡ p). let y : status_at b'.rows q ≡ 0 = ap (status_at b'.rows) z ∙ ap (λ (r : List ℕ). status_at r p) c.rows ∙ freed_status b.rows p h.sized.rows u.1 in absurd (omega arith))
          (λ d. let l = h.bar q v (sym (status_stays q d) ∙ e) in let f = until_stays q d in let i = until_stays 0 (λ (z : 0 ≡ p). omega (arith, u.0)) in omega arith) (here_or_not q p)

      edges : (q r : ℕ) → Place places q → Place places r → in_row b'.edges r q ≡ chain_edge log (name_at b'.rows q) (name_at b'.rows r)
      edges q r v w = go (here_or_not q p) (here_or_not r p)
        where
          go : (q ≡ p) ⊎ (q ≡ p → ⊥) → (r ≡ p) ⊎ (r ≡ p → ⊥) → in_row b'.edges r q ≡ chain_edge log (name_at b'.rows q) (name_at b'.rows r)
          go (inl e) z = c.none q r v w (inl e) ∙ sym (no_edge_there h _ _ (inl (gone q e)))
          go (inr d) (inl e) = c.none q r v w (inr e) ∙ sym (no_edge_there h _ _ (inr (gone r e)))
          go (inr d) (inr f) = rw (name_stays q d, name_stays r f) (c.edges q r d f ∙ h.edges q r v w)
