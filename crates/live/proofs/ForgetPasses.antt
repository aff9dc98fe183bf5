-- The passes of forgetting: one place after another is looked at, until in a pass none could go.
use mathlib.Core.Path.{◌≡◌, refl, sym, ap, subst, ◌∙◌}
use mathlib.Core.Bool.{Bool, true, false, false≢true}
use mathlib.Core.Logic.{◌⊎◌, inl, inr, ⊎_elim}
use mathlib.Core.List.{List}
use Prim.Native.Nat.{ℕ, suc, ◌+◌, ◌*◌, ◌≤◌, ◌<◌}
use native.Mathlib.Omega.{arith}
use lib.ListN.{length}
use Rattle.words.specs.Tests.{◌is◌, ◌upto◌, ◌and◌, ◌or◌, fails, provided◌then◌else◌}
use Rattle.words.proofs.Truth.{decide, to_false, and→, and_true_right, fails→, →fails, is→, →is, isnt→, →isnt, upto→, not_upto→, provided_true, provided_false, count_same, count_without}
use Rattle.verdict.specs.Limits.{objects}
use Rattle.live.specs.SoFar.{is_open}
use Rattle.live.specs.Kept.{places}
use Rattle.live.specs.Inner.Table.{Table, cell, name_at, status_at, sees_at, until_at}
use Rattle.live.specs.Inner.Held.{Place, Held, Keeping}
use Rattle.live.specs.Inner.Took.{table}
use Rattle.live.specs.Inner.Forgetting.{LeastOpen, can_go, freed, Looks, Carries, done_count, Passes, Holder, Watched, LastUsed, Forgot, GivesBack}
use Rattle.live.proofs.HeldFreed.{freed_size, freed_status, freed_cell}
use Rattle.live.proofs.Accepted.{committed_range}
use Rattle.live.proofs.RowSteps.{row_as}
use Rattle.live.proofs.Holding.{used_low, done_is}
use Rattle.live.proofs.RoomLaws.{forgotten_held, forgotten_kept, none_can_go, held_by}

-- who can go has committed
committed_there : (rows edges : List ℕ) (least p : ℕ) → can_go rows edges least p ≡ true → status_at rows p ≡ 2
unfolding can_go
committed_there rows edges least p e = is→ (and→ (and→ e).0).0

-- the rows after place p was freed, of another place
module _ (rows : List ℕ) (p : ℕ) (size : length rows ≡ 8643) (high : p ≤ 128) where
  status_away : (q : ℕ) → (q ≡ p → ⊥) → status_at (freed rows p) q ≡ status_at rows q
  unfolding status_at
  status_away q d = freed_cell rows p size high q 1 (omega arith) (λ e _. d e) (λ e _. d e)

  -- one fewer has committed
  fewer_done : status_at rows p ≡ 2 → suc (done_count (freed rows p)) ≡ done_count rows
  unfolding done_count
  fewer_done e =
      ap suc (count_same 129 _ _ (λ q l. same q (decide (q is p)))) ∙ count_without 129 (λ q. status_at rows q is 2) p (omega arith) (→is e)
    where
      same : (q : ℕ) → ((q is p) ≡ true) ⊎ ((q is p) ≡ false) → (status_at (freed rows p) q is 2) ≡ (status_at rows q is 2 and fails (q is p))
      same q (inl z) =
          let f : q ≡ p = is→ z in
          let y : status_at (freed rows p) q ≡ 0 = ap (status_at (freed rows p)) f ∙ freed_status rows p size high in
          →isnt (λ (w : status_at (freed rows p) q ≡ 2). omega arith) ∙ sym (to_false _ (λ w. isnt→ (fails→ (and→ w).1) f))
      same q (inr z) = ap (λ (s : ℕ). s is 2) (status_away q (isnt→ z)) ∙ sym (and_true_right _ (→fails z))

pub looked_sizes : {rows edges rows' edges' : List ℕ} {p least n : ℕ} {gone r : Bool} → length rows ≡ 8643 → length edges ≡ 256 → p ≤ 128 → Looks rows edges p least n gone rows' edges' r → (length rows' ≡ 8643) × (length edges' ≡ 256)
looked_sizes {rows} {edges} {p = p} {least} size_rows size_edges high c =
    ⊎_elim (λ (e : can_go rows edges least p ≡ true). let s = c.goes e in (ap length s.0 ∙ freed_size rows p size_rows high, s.1.size ∙ size_edges))
    (λ (e : can_go rows edges least p ≡ false). let s = c.stays e in (ap length s.0 ∙ size_rows, ap length s.1 ∙ size_edges)) (decide (can_go rows edges least p))

-- WHERE A PASS HAS COME TO: while nobody has gone, the places before p cannot go
pub record Passing (opened rows edges : List ℕ) (n least p : ℕ) (gone : Bool) (rows' edges' : List ℕ) : Type 0 where
  pub size_rows : length rows' ≡ 8643
  pub size_edges : length edges' ≡ 256
  pub none : gone ≡ false → (q : ℕ) → 1 ≤ q → q < p → can_go rows' edges' least q ≡ false
  pub fewer : (done_count rows' ≤ done_count rows) × (gone ≡ true → done_count rows' < done_count rows)
  pub holds : Carries opened rows edges n rows' edges'

pub passing_none : (opened rows edges : List ℕ) (n least : ℕ) → length rows ≡ 8643 → length edges ≡ 256 → Passing opened rows edges n least 1 false rows edges
passing_none opened rows edges n least r e =
    record { size_rows = r; size_edges = e; none = λ _ q l k. absurd (omega arith); fewer = (omega arith, λ z. absurd (false≢true z)); holds = λ marks log top keeps h m. (keeps, h, m) }

pub passing_more : {opened rows edges rows' edges' rows'' edges'' : List ℕ} {n least p : ℕ} {gone r : Bool} → Passing opened rows edges n least p gone rows' edges' → LeastOpen opened n least → 1 ≤ p → p ≤ n → n ≤ 128
    → Looks rows' edges' p least n gone rows'' edges'' r → Passing opened rows edges n least (p + 1) r rows'' edges''
passing_more {opened} {rows} {edges} {rows'} {edges'} {rows''} {edges''} {n} {least} {p} {gone} {r} w o low l few c = go (decide (can_go rows' edges' least p))
  where
    go : (can_go rows' edges' least p ≡ true) ⊎ (can_go rows' edges' least p ≡ false) → Passing opened rows edges n least (p + 1) r rows'' edges''
    go (inr e) =
        let s = c.stays e in
        rw (s.0, s.1, s.2) (record {
          size_rows = w.size_rows;
          size_edges = w.size_edges;
          none = λ g (q : ℕ) (i : 1 ≤ q) (k : q < p + 1). ⊎_elim (λ (x : (q is p) ≡ true). let y : q ≡ p = is→ x in rw y e) (λ (x : (q is p) ≡ false). let d : q ≡ p → ⊥ = isnt→ x in w.none g q i (omega arith)) (decide (q is p));
          fewer = w.fewer;
          holds = w.holds;
        })
    go (inl e) =
        let s = c.goes e in
        rw (s.0, s.2) (record {
          size_rows = freed_size rows' p w.size_rows (omega arith);
          size_edges = s.1.size ∙ w.size_edges;
          none = λ g. absurd (false≢true (sym g));
          fewer = (omega (arith, w.fewer.0, one_fewer), λ _. omega (arith, w.fewer.0, one_fewer));
          holds = λ marks log top keeps h m.
              let a = w.holds marks log top keeps h m in
              let u : Place places p = (low, omega arith) in
              (_, forgotten_held a.1 a.2 p u o e s.1 a.1.sized, forgotten_kept a.1 a.2 p u o e s.1 a.1.sized);
        })
      where
        one_fewer : suc (done_count (freed rows' p)) ≡ done_count rows'
        one_fewer = fewer_done rows' p w.size_rows (omega arith) (committed_there rows' edges' least p e)

-- ALL PLACES WERE LOOKED AT
pub passing_done : {opened rows edges rows' edges' : List ℕ} {n least p : ℕ} {gone : Bool} → length rows ≡ 8643 → length edges ≡ 256 → n < p → Passing opened rows edges n least p gone rows' edges' → Passes opened rows edges n least rows' edges' gone
passing_done r e l w = record { size_rows = w.size_rows ∙ sym r; size_edges = w.size_edges ∙ sym e; none = λ g q u. w.none g q u.0 (omega (arith, u.1)); fewer = w.fewer; holds = w.holds }

-- WHERE THE PASSES HAVE COME TO: once nobody went in one, nothing more can go
pub record Going (opened rows edges : List ℕ) (n least : ℕ) (again : Bool) (rows' edges' : List ℕ) : Type 0 where
  pub size_rows : length rows' ≡ 8643
  pub size_edges : length edges' ≡ 256
  pub none : again ≡ false → (q : ℕ) → Place n q → can_go rows' edges' least q ≡ false
  pub holds : Carries opened rows edges n rows' edges'

pub going_none : (opened rows edges : List ℕ) (n least : ℕ) → length rows ≡ 8643 → length edges ≡ 256 → Going opened rows edges n least true rows edges
going_none opened rows edges n least r e = record { size_rows = r; size_edges = e; none = λ z. absurd (false≢true (sym z)); holds = λ marks log top keeps h m. (keeps, h, m) }

-- how much is left to do: after a pass fewer are left, or there is none more
unfoldable pub to_do : List ℕ → Bool → ℕ
to_do rows again = done_count rows * 2 + (provided again then 1 else 0)

module _ {opened rows' edges' rows'' edges'' : List ℕ} {n least : ℕ} {r : Bool} (c : Passes opened rows' edges' n least rows'' edges'' r) where
  pub pass_fewer : {again : Bool} → again ≡ true → to_do rows'' r < to_do rows' again
  unfolding to_do
  pass_fewer {again} f = go (decide r)
    where
      one : (b : Bool) → b ≡ true → ◌≡◌ {A = ℕ} (provided b then 1 else 0) 1
      one b e = provided_true _ _ e

      go : (r ≡ true) ⊎ (r ≡ false) → done_count rows'' * 2 + (provided r then 1 else 0) < done_count rows' * 2 + (provided again then 1 else 0)
      go (inl e) = omega (arith, one r e, one again f, c.fewer.1 e)
      go (inr e) = let z : ◌≡◌ {A = ℕ} (provided r then 1 else 0) 0 = provided_false _ _ e in omega (arith, one again f, c.fewer.0)

  pub going_more : {rows edges : List ℕ} {again : Bool} → Going opened rows edges n least again rows' edges' → Going opened rows edges n least r rows'' edges''
  going_more w =
      record {
        size_rows = c.size_rows ∙ w.size_rows;
        size_edges = c.size_edges ∙ w.size_edges;
        none = c.none;
        holds = λ marks log top keeps h m. let a = w.holds marks log top keeps h m in c.holds marks log top a.0 a.1 a.2;
      }

-- THE LAST PASS
pub going_done : {opened rows edges rows' edges' : List ℕ} {n least : ℕ} {again : Bool} → again ≡ false → Going opened rows edges n least again rows' edges' → LeastOpen opened n least → (marks : List ℕ) → Forgot n (table opened rows marks edges) (table opened rows' marks edges')
going_done e w o marks =
    record {
      sized = λ s. record { opened = s.opened; rows = w.size_rows; marks = s.marks; edges = w.size_edges };
      holds = λ log top keeps h m. let a = w.holds marks log top keeps h m in (a.0, a.1, a.2, none_can_go a.1 a.2 o (w.none e));
    }

-- FEWER PLACES ARE LOOKED AT, and row 0 is watched
module _ {log : List ℕ} {top n r : ℕ} {b : Table} {rows' : List ℕ} (h : Held log top n b) (u : LastUsed b.rows n r) (c : Watched b.rows r rows') where
  abbrev After : Table
  After = record { opened = b.opened; rows = rows'; marks = b.marks; edges = b.edges }

  same : (q a : ℕ) → a < 67 → 1 ≤ q → cell rows' q a ≡ cell b.rows q a
  same q a l k = c.others q a l (λ (e : q ≡ 0) _. omega arith) (λ (e : q ≡ 0) _. omega arith)

  pub watched_name : (q : ℕ) → 1 ≤ q → name_at rows' q ≡ name_at b.rows q
  unfolding name_at
  watched_name q k = same q 0 (omega arith) k

  status_same : (q : ℕ) → 1 ≤ q → status_at rows' q ≡ status_at b.rows q
  unfolding status_at
  status_same q k = same q 1 (omega arith) k

  until_same : (q : ℕ) → 1 ≤ q → until_at rows' q ≡ until_at b.rows q
  unfolding until_at
  until_same q k = same q 66 (omega arith) k

  sees_same : (q : ℕ) → (x : ℕ) → x < objects → sees_at rows' q x ≡ sees_at b.rows q x
  unfolding sees_at
  sees_same q x l = c.others q (2 + x) (omega arith) (λ _ (e : 2 + x ≡ 0). omega arith) (λ _ (e : 2 + x ≡ 66). omega arith)

  -- a committed one is among those that are looked at
  bar : (q : ℕ) → Place places q → status_at rows' q ≡ 2 → until_at rows' 0 ≤ until_at rows' q
  bar q v e =
      let f : status_at b.rows q ≡ 2 = sym (status_same q v.0) ∙ e in
      let l : Place n q = used_low h q v (committed_range h.accepted _ (sym (done_is h q v) ∙ →is f)).0 in
      let i : until_at rows' q ≡ until_at b.rows q = until_same q v.0 in
      let low : q ≤ r = ⊎_elim (λ (z : (q upto r) ≡ true). upto→ z) (λ (z : (q upto r) ≡ false). absurd (let y : name_at b.rows q ≡ 0 = u.free q (not_upto→ z) l.1 in let w : status_at b.rows q ≡ 0 = h.free q v y in omega arith)) (decide (q upto r)) in
      omega (arith, c.low q (v.0, low) f)

  pub narrowed : Held log top r After
  narrowed =
      record {
        sized = record { opened = h.sized.opened; rows = c.size ∙ h.sized.rows; marks = h.sized.marks; edges = h.sized.edges };
        accepted = h.accepted;
        fine = h.fine;
        acyclic = h.acyclic;
        highest = h.highest;
        room = omega (arith, h.room, u.bound);
        beyond = λ (q : ℕ) (l : r < q) k. watched_name q (omega arith) ∙ ⊎_elim (λ (z : (q upto n) ≡ true). u.free q l (upto→ z)) (λ (z : (q upto n) ≡ false). h.beyond q (not_upto→ z) k) (decide (q upto n));
        once = λ p q v w m e. h.once p q v w (subst (λ (i : ℕ). 1 ≤ i) (watched_name p v.0) m) (sym (watched_name p v.0) ∙ e ∙ watched_name q w.0);
        row = λ q v m. row_as (h.row q v (subst (λ (i : ℕ). 1 ≤ i) (watched_name q v.0) m)) (watched_name q v.0) (status_same q v.0) (sees_same q) refl refl;
        free = λ q v e. status_same q v.0 ∙ h.free q v (sym (watched_name q v.0) ∙ e);
        opened = λ q v. rw (watched_name q v.0) (h.opened q v);
        last = λ x l. sees_same 0 x l ∙ h.last x l;
        until = λ q v d t l. rw (watched_name q v.0, until_same q v.0) (h.until q v (rw (watched_name q v.0) at d) t l);
        bar = bar;
        edges = λ q w v x. rw (watched_name q v.0, watched_name w x.0) (h.edges q w v x);
      }

  pub narrowed_kept : {keeps : ℕ → Bool} → Keeping log b keeps → Keeping log After keeps
  narrowed_kept {keeps} m =
      record {
        forgot = m.forgot;
        placed = λ t e. let p = m.placed t e in (p.0, p.1, watched_name p.0 p.1.0 ∙ p.2);
        only = λ q v k. subst (λ (i : ℕ). (is_open log i or keeps i) ≡ true) (sym (watched_name q v.0)) (m.only q v (subst (λ (i : ℕ). 1 ≤ i) (watched_name q v.0) k));
      }

-- WHAT IS GIVEN BACK
pub gives_back : {n r : ℕ} {b b' : Table} {rows : List ℕ} → Forgot n b b' → LastUsed b'.rows n r → Watched b'.rows r rows → GivesBack n b (record { opened = b'.opened; rows = rows; marks = b'.marks; edges = b'.edges }) r
gives_back f u c =
    record {
      sized = λ s. let z = f.sized s in record { opened = z.opened; rows = c.size ∙ z.rows; marks = z.marks; edges = z.edges };
      room = u.bound;
      tidy = λ log top keeps h m. let a = f.holds log top keeps h m in record { held = narrowed a.1 u c; keeps = a.0; keeping = narrowed_kept a.1 u c a.2; rests = a.3 };
    }

-- nothing, where somebody is open who overlapped all that are kept
pub gives_nothing : {n : ℕ} {b : Table} → Holder b.opened b.rows n true → GivesBack n b b n
gives_nothing {n} {b} o =
    record {
      sized = λ s. s;
      room = omega arith;
      tidy = λ log top keeps h m. let w = o refl in record { held = h; keeps = keeps; keeping = m; rests = held_by h m w.0 w.1 w.2 w.3 };
    }
