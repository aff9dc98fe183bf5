-- The rows hold the steps accepted, after a begin: a free place is in use.
use mathlib.Core.Path.{◌≡◌, refl, sym, ap, subst, ◌∙◌}
use mathlib.Core.Bool.{Bool, true, false}
use mathlib.Core.Logic.{◌⊎◌, inl, inr, ⊎_elim}
use mathlib.Core.List.{List}
use Prim.Native.Nat.{ℕ, ◌≤◌, ◌<◌}
use native.Mathlib.Omega.{arith}
use Rattle.words.specs.Tests.{◌is◌, ◌upto◌, ◌and◌, ◌or◌, provided◌then◌else◌}
use Rattle.words.proofs.Truth.{not_both, same_test, and→, →and, or→, →or_right, →is, upto→, →upto, not_upto→, provided_true}
use Rattle.graph.specs.Matrix.{in_row}
use Rattle.verdict.specs.Limits.{objects}
use Rattle.verdict.specs.Log.{steps, begun, committed, commit_step}
use Rattle.live.specs.SoFar.{numbers, is_open, passed}
use Rattle.live.specs.Breach.{breached}
use Rattle.live.specs.Kept.{places}
use Rattle.live.specs.Inner.Accepted.{Whole, Accepted}
use Rattle.live.specs.Inner.Chain.{chain_edge, passed_by}
use Rattle.live.specs.Inner.Table.{Table, Sized, name_at, status_at, sees_at, until_at, open_at, writes_at, reads_at}
use Rattle.live.specs.Inner.Held.{Row, Place, Held}
use Rattle.live.proofs.Grows.{Grows, commit_step_same}
use Rattle.live.proofs.Accepted.{Good, commit_step_is, good_uncommitted, accepted_grows, new_unbegun}
use Rattle.live.proofs.StepFacts.{open_other, open_new, passed_grows, last_stays}
use Rattle.live.proofs.Breaches.{breached_same}
use Rattle.live.proofs.SeenGrows.{committed_same, edge_same}
use Rattle.live.proofs.ChainGrows.{chain_same}
use Rattle.live.proofs.Begins.{passed_same}
use Rattle.live.proofs.Cycles.{no_edge_new, closed_alike}
use Rattle.live.proofs.RowSteps.{row_as, row_other, row_begin}
use Rattle.live.proofs.PlaceLaws.{here_or_not}
use Rattle.live.proofs.Holding.{no_edge_there}

-- place p is given to t, who sees what one that begins now would see
pub record Placed (b b' : Table) (p t : ℕ) : Type 0 where
  pub sizes : Sized b'
  pub names : (q : ℕ) → Place places q → (q ≡ p → ⊥) → name_at b'.rows q ≡ name_at b.rows q
  pub statuses : (q : ℕ) → Place places q → (q ≡ p → ⊥) → status_at b'.rows q ≡ status_at b.rows q
  pub seeings : (q : ℕ) → q ≤ places → (q ≡ p → ⊥) → (x : ℕ) → x < objects → sees_at b'.rows q x ≡ sees_at b.rows q x
  pub untils : (q : ℕ) → Place places q → (q ≡ p → ⊥) → until_at b'.rows q ≡ until_at b.rows q
  pub bar : until_at b'.rows 0 ≡ until_at b.rows 0
  pub writings : (q : ℕ) → Place places q → (q ≡ p → ⊥) → writes_at b'.marks q ≡ writes_at b.marks q
  pub readings : (q : ℕ) → Place places q → (q ≡ p → ⊥) → reads_at b'.marks q ≡ reads_at b.marks q
  pub opens : (q : ℕ) → Place places q → (q ≡ p → ⊥) → open_at b'.opened q ≡ open_at b.opened q
  pub edges : b'.edges ≡ b.edges
  pub name : name_at b'.rows p ≡ t
  pub status : status_at b'.rows p ≡ 0
  pub sees : (x : ℕ) → x < objects → sees_at b'.rows p x ≡ sees_at b.rows 0 x
  pub writes : writes_at b'.marks p ≡ 0
  pub reads : reads_at b'.marks p ≡ 0
  pub opened : open_at b'.opened p ≡ t

module _ {log log' : List ℕ} {top count k t x s : ℕ} {b b' : Table} (h : Held log top count b) (good : Good numbers log k t x) (g : Grows log k t x s log') (whole : Whole log')
    (begin : k ≡ 1) {p : ℕ} (u : Place places p) (free : name_at b.rows p ≡ 0) (c : Placed b b' p t) where
  no_commit : k ≡ 4 → ⊥
  no_commit e = omega arith

  fresh : begun log (steps log) t ≡ false
  fresh = new_unbegun h.accepted t (good.above begin)

  low : 1 ≤ t
  low = good.in_range.0

  -- t has no place yet
  pub new : (q : ℕ) → Place places q → t ≡ name_at b.rows q → ⊥
  new q v e = not_both (subst (λ (z : ℕ). begun log (steps log) z ≡ true) (sym e) (h.row q v (omega (arith, low))).began) fresh

  is_new : (q : ℕ) → q ≡ p → name_at b'.rows q ≡ t
  is_new q e = ap (name_at b'.rows) e ∙ c.name

  fine : breached numbers log' ≡ false
  fine = breached_same h.accepted good g whole no_commit ∙ h.fine

  ok' : Accepted numbers log'
  ok' = accepted_grows h.accepted good g whole

  highest : (v : ℕ) → 1 ≤ v → passed log' v ≡ (v upto t)
  highest v l = passed_grows h.accepted good g v ∙ same_test forth (λ e. →or_right _ (→and (→is begin) e))
    where
      above : top < t
      above = not_upto→ (sym (h.highest t good.in_range.0) ∙ good.above begin)

      forth : (passed log v or (k is 1 and v upto t)) ≡ true → (v upto t) ≡ true
      forth e = ⊎_elim (λ z. →upto (let m : v ≤ top = upto→ (sym (h.highest v l) ∙ z) in omega (arith, above))) (λ z. (and→ z).1) (or→ e)

  once : (q r : ℕ) → Place places q → Place places r → 1 ≤ name_at b'.rows q → name_at b'.rows q ≡ name_at b'.rows r → q ≡ r
  once q r v w n e = go (here_or_not q p) (here_or_not r p)
    where
      go : (q ≡ p) ⊎ (q ≡ p → ⊥) → (r ≡ p) ⊎ (r ≡ p → ⊥) → q ≡ r
      go (inr y) (inr z) = h.once q r v w (subst (λ (i : ℕ). 1 ≤ i) (c.names q v y) n) (sym (c.names q v y) ∙ e ∙ c.names r w z)
      go (inr y) (inl z) = absurd (new q v (sym (sym (c.names q v y) ∙ e ∙ is_new r z)))
      go (inl y) (inr z) = absurd (new r w (sym (sym (c.names r w z) ∙ sym e ∙ is_new q y)))
      go (inl y) (inl z) = y ∙ sym z

  row : (q : ℕ) → Place places q → 1 ≤ name_at b'.rows q → Row log' (name_at b'.rows q) (status_at b'.rows q) (sees_at b'.rows q) (writes_at b'.marks q) (reads_at b'.marks q)
  row q v n = go (here_or_not q p)
    where
      go : (q ≡ p) ⊎ (q ≡ p → ⊥) → Row log' (name_at b'.rows q) (status_at b'.rows q) (sees_at b'.rows q) (writes_at b'.marks q) (reads_at b'.marks q)
      go (inr d) =
          row_as (row_other h.accepted good g (new q v) (h.row q v (subst (λ (i : ℕ). 1 ≤ i) (c.names q v d) n))) (c.names q v d) (c.statuses q v d) (c.seeings q v.1 d) (c.writings q v d) (c.readings q v d)
      go (inl z) =
          row_as (row_begin h.accepted good g begin h.last)
          (is_new q z) (ap (status_at b'.rows) z ∙ c.status) (λ y l. ap (λ (w : ℕ). sees_at b'.rows w y) z ∙ c.sees y l) (ap (writes_at b'.marks) z ∙ c.writes) (ap (reads_at b'.marks) z ∙ c.reads)

  opened : (q : ℕ) → Place places q → open_at b'.opened q ≡ (provided is_open log' (name_at b'.rows q) then name_at b'.rows q else 0)
  opened q v = go (here_or_not q p)
    where
      go : (q ≡ p) ⊎ (q ≡ p → ⊥) → open_at b'.opened q ≡ (provided is_open log' (name_at b'.rows q) then name_at b'.rows q else 0)
      go (inr d) = rw (c.names q v d) (c.opens q v d ∙ h.opened q v ∙ ap (λ (o : Bool). provided o then name_at b.rows q else 0) (sym (open_other g (name_at b.rows q) (new q v))))
      go (inl z) = rw (is_new q z) (ap (open_at b'.opened) z ∙ c.opened ∙ sym (provided_true _ _ (open_new h.accepted good g begin)))

  until : (q : ℕ) → Place places q → committed log' (name_at b'.rows q) ≡ true → (v : ℕ) → 1 ≤ v → passed_by log' (commit_step log' (name_at b'.rows q)) v ≡ (v upto until_at b'.rows q)
  until q w d v l = go (here_or_not q p)
    where
      old : committed log (name_at b'.rows q) ≡ true
      old = sym (committed_same h.accepted good g no_commit (name_at b'.rows q)) ∙ d

      early : commit_step log (name_at b'.rows q) < steps log
      early = (commit_step_is h.accepted (name_at b'.rows q) old).0

      go : (q ≡ p) ⊎ (q ≡ p → ⊥) → passed_by log' (commit_step log' (name_at b'.rows q)) v ≡ (v upto until_at b'.rows q)
      go (inr n) = rw (commit_step_same g (name_at b'.rows q) old) (passed_same g _ v (omega (arith, early)) ∙ rw (c.names q w n, c.untils q w n) (h.until q w (rw (c.names q w n) at old) v l))
      go (inl z) = absurd (not_both (rw (is_new q z) at old) (good_uncommitted h.accepted good))

  edges : (q r : ℕ) → Place places q → Place places r → in_row b'.edges r q ≡ chain_edge log' (name_at b'.rows q) (name_at b'.rows r)
  edges q r v w = ap (λ (m : List ℕ). in_row m r q) c.edges ∙ h.edges q r v w ∙ go (here_or_not q p) (here_or_not r p) ∙ sym (chain_same h.accepted good g no_commit (name_at b'.rows q) (name_at b'.rows r))
    where
      go : (q ≡ p) ⊎ (q ≡ p → ⊥) → (r ≡ p) ⊎ (r ≡ p → ⊥) → chain_edge log (name_at b.rows q) (name_at b.rows r) ≡ chain_edge log (name_at b'.rows q) (name_at b'.rows r)
      go (inr y) (inr z) = rw (c.names q v y, c.names r w z) refl
      go (inr y) (inl z) = no_edge_there h _ _ (inr (ap (name_at b.rows) z ∙ free)) ∙ sym (no_edge_new h.accepted good _ _ (inr (is_new r z)))
      go (inl y) z = no_edge_there h _ _ (inl (ap (name_at b.rows) y ∙ free)) ∙ sym (no_edge_new h.accepted good _ _ (inl (is_new q y)))

  bar : (q : ℕ) → Place places q → status_at b'.rows q ≡ 2 → until_at b'.rows 0 ≤ until_at b'.rows q
  bar q v e =
      ⊎_elim (λ (z : q ≡ p). let y : status_at b'.rows q ≡ 0 = ap (status_at b'.rows) z ∙ c.status in absurd (omega arith))
      (λ d. let l = h.bar q v (sym (c.statuses q v d) ∙ e) in let f : until_at b'.rows q ≡ until_at b.rows q = c.untils q v d in omega (arith, c.bar)) (here_or_not q p)

  pub held_begin : {count' : ℕ} → count ≤ count' → p ≤ count' → count' ≤ places → Held log' t count' b'
  held_begin {count'} more there room =
      record {
        sized = c.sizes;
        accepted = ok';
        fine = fine;
        acyclic = closed_alike h.accepted ok' h.fine fine (edge_same h.accepted good g no_commit) ∙ h.acyclic;
        highest = highest;
        room = room;
        beyond = λ (q : ℕ) (l : count' < q) (m : q ≤ places). c.names q (omega arith, m) (λ (e : q ≡ p). omega arith) ∙ h.beyond q (omega arith) m;
        once = once;
        row = row;
        free = λ q v e. ⊎_elim (λ (z : q ≡ p). let y : t ≡ 0 = sym (is_new q z) ∙ e in absurd (omega (arith, low))) (λ d. c.statuses q v d ∙ h.free q v (sym (c.names q v d) ∙ e)) (here_or_not q p);
        opened = opened;
        last = λ y l. c.seeings 0 (omega arith) (λ (z : 0 ≡ p). omega (arith, u.0)) y l ∙ h.last y l ∙ sym (last_stays h.accepted good g y no_commit);
        until = until;
        bar = bar;
        edges = edges;
      }
