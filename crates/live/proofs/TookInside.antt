-- A step of an open transaction is taken: a read or a write at its place.
use mathlib.Core.Path.{◌≡◌, refl, sym, ap, subst, ◌∙◌}
use mathlib.Core.Bool.{true, false}
use mathlib.Core.Logic.{◌⊎◌, inl, inr}
use mathlib.Core.List.{List}
use Prim.Native.Nat.{ℕ, ◌+◌, ◌-◌, ◌*◌, ◌≤◌, ◌<◌}
use native.Mathlib.Omega.{arith}
use lib.ListN.{length, set, length-set}
use Rattle.words.specs.Tests.{◌is◌, provided◌then◌else◌}
use Rattle.words.proofs.Truth.{decide, is→, isnt→, provided_true, provided_false}
use Rattle.bits.specs.Word.{marked}
use Rattle.bits.specs.Word as bits
use Rattle.verdict.specs.Limits.{objects}
use Rattle.verdict.specs.Log.{writer}
use Rattle.live.specs.Answers.{Taken}
use Rattle.live.specs.SoFar.{numbers, more, is_open}
use Rattle.live.specs.Says.{number}
use Rattle.live.specs.Kept.{places, full}
use Rattle.live.specs.declared.step.Live.{Live}
use Rattle.live.specs.Inner.Accepted.{Whole}
use Rattle.live.specs.Inner.Seen.{seen, reads_first}
use Rattle.live.specs.Inner.Table.{Table, Sized, cell, name_at, status_at, sees_at, until_at, open_at, writes_at, reads_at}
use Rattle.live.specs.Inner.Held.{Row, Place, Held}
use Rattle.live.specs.Inner.Noting.{noted_status, NotesRead}
use Rattle.live.specs.Inner.Took.{range_number, table, Took}
use Rattle.live.proofs.Grows.{Grows, more_grows, more_whole}
use Rattle.live.proofs.Accepted.{Good, good_step}
use Rattle.live.proofs.StepFacts.{open_inside}
use Rattle.live.proofs.RowSteps.{row_as, row_write, marks_own, marks_first, row_right, row_wrong}
use Rattle.live.proofs.Holding.{wide, open_there, Touched, held_inside}
use Rattle.live.proofs.TidySteps.{tidy_inside}
use Rattle.live.proofs.Numbers.{other_good}
use Rattle.live.proofs.Cells.{stored_same, stored_other, writes_here, writes_away, writes_read, reads_here, reads_away, reads_write}
use Rattle.live.proofs.Answering.{took_taken}

-- THE STATUS after a read: one entry at most is another
module _ (rows : List ℕ) (p s w : ℕ) (size : length rows ≡ 8643) (high : p ≤ 128) where
  cases : (P : List ℕ → Type 0) → (s ≡ w → P rows) → ((s ≡ w → ⊥) → P (set rows (p * 67 + 1) 1)) → P (noted_status rows p s w)
  unfolding noted_status
  cases P same other = go (decide (s is w))
    where
      go : ((s is w) ≡ true) ⊎ ((s is w) ≡ false) → P (provided s is w then rows else set rows (p * 67 + 1) 1)
      go (inl e) = rw (provided_true rows (set rows (p * 67 + 1) 1) e) (same (is→ e))
      go (inr e) = rw (provided_false rows (set rows (p * 67 + 1) 1) e) (other (isnt→ e))

  noted_size : length (noted_status rows p s w) ≡ 8643
  noted_size = cases (λ r. length r ≡ 8643) (λ _. size) (λ _. length-set rows (p * 67 + 1) 1 ∙ size)

  noted_cell : (q c : ℕ) → c < 67 → (q ≡ p → c ≡ 1 → ⊥) → cell (noted_status rows p s w) q c ≡ cell rows q c
  noted_cell q c l n = cases (λ r. cell r q c ≡ cell rows q c) (λ _. refl) (λ _. stored_other rows p 1 (p * 67 + 1) 1 q c refl (omega arith) l n)

  noted_here : (P : ℕ → Type 0) → (s ≡ w → P (status_at rows p)) → ((s ≡ w → ⊥) → P 1) → P (status_at (noted_status rows p s w) p)
  unfolding status_at
  noted_here P same other = cases (λ r. P (cell r p 1)) same (λ n. subst P (sym (stored_same rows p 1 (p * 67 + 1) 1 refl (omega arith))) (other n))

-- A GOOD STEP at place p, where its transaction t is open
pub record At (log : List ℕ) (b : Table) (k t x s p : ℕ) : Type 0 where
  pub named : name_at b.rows p ≡ t
  pub alive : is_open log t ≡ true
  pub numbered : number numbers (full numbers places) log k t x s ≡ 0
  pub good : Good numbers log k t x
  pub grows : Grows log k t x s (more log k t x s)
  pub whole : Whole (more log k t x s)
  pub row : Row log t (status_at b.rows p) (sees_at b.rows p) (writes_at b.marks p) (reads_at b.marks p)

pub step_at : {log : List ℕ} {top count : ℕ} {b : Table} {k t x s : ℕ} (p : ℕ) → Held log top count b → 1 ≤ t → 0 ≡ range_number k t x s → (k ≡ 1 → ⊥) → Place places p → open_at b.opened p ≡ t → At log b k t x s p
step_at {log} {b = b} {k} {t} {x} {s} p h low fine other place here =
    let f = open_there h p t low place here in
    let n = other_good (full numbers places) log k t x s fine other f.1 in
    record {
      named = f.0;
      alive = f.1;
      numbered = n;
      good = good_step (full numbers places) log k t x s n;
      grows = more_grows log h.accepted.whole k t x s;
      whole = more_whole log h.accepted.whole k t x s;
      row = row_as (h.row p place (subst (λ (z : ℕ). 1 ≤ z) (sym f.0) low)) (sym f.0) refl (λ y m. refl) refl refl;
    }

module _ {log : List ℕ} {top count : ℕ} {b : Table} {k t x s p : ℕ} (h : Held log top count b) (a : At log b k t x s p) (place : Place places p) (other : k ≡ 1 → ⊥) where
  p_high : p ≤ 128
  p_high = place.1

  still : open_at b.opened p ≡ t → (k ≡ 4 → ⊥) → (k ≡ 5 → ⊥) → open_at b.opened p ≡ (provided is_open (more log k t x s) t then t else 0)
  still here no_commit no_Abort = here ∙ sym (provided_true _ _ (open_inside h.accepted a.good a.grows other no_commit no_Abort t ∙ a.alive))

  -- A READ
  module _ (here : open_at b.opened p ≡ t) (read : k ≡ 2) {rows' marks' : List ℕ} (n : NotesRead b.rows b.marks p t x s rows' marks') where
    object : x < objects
    object = a.good.in_objects (inl read)

    -- the rows and the marks as they are noted, with the source that is wanted
    noted : (w : ℕ) → w ≡ (provided writer log x t then t else seen log t x) → rows' ≡ noted_status b.rows p s w → length marks' ≡ 256
        → ((q : ℕ) → Place places q → writes_at marks' q ≡ writes_at b.marks q) → ((q : ℕ) → Place places q → (q ≡ p → ⊥) → reads_at marks' q ≡ reads_at b.marks q)
        → ((y : ℕ) → y < objects → marked (reads_at marks' p) y ≡ reads_first (more log k t x s) y t) → Held (more log k t x s) top count (table b.opened rows' marks' b.edges)
    unfolding name_at status_at sees_at until_at
    noted w e f size ws rs m =
        held_inside h a.good a.grows a.whole p place a.named touched row (still here (λ (z : k ≡ 4). omega arith) (λ (z : k ≡ 5). omega arith)) other (λ (z : k ≡ 4). omega arith) refl
        (λ y l. same 0 (2 + y) (omega arith) (λ (z : 0 ≡ p) _. omega (arith, place.0))) (same p 66 (omega arith) (λ _ (z : ◌≡◌ {A = ℕ} 66 1). omega arith)) (same 0 66 (omega arith) (λ _ (z : ◌≡◌ {A = ℕ} 66 1). omega arith))
      where
        same : (q c : ℕ) → c < 67 → (q ≡ p → c ≡ 1 → ⊥) → cell rows' q c ≡ cell b.rows q c
        same q c l d = rw f (noted_cell b.rows p s w h.sized.rows p_high q c l d)

        touched : Touched b (table b.opened rows' marks' b.edges) p
        touched =
            record {
              sizes = record { opened = h.sized.opened; rows = rw f (noted_size b.rows p s w h.sized.rows p_high); marks = size; edges = h.sized.edges };
              names = λ q v. same q 0 (omega arith) (λ _ (z : ◌≡◌ {A = ℕ} 0 1). omega arith);
              statuses = λ q v d. same q 1 (omega arith) (λ z _. d z);
              seeings = λ q v y l. same q (2 + y) (omega arith) (λ _ (z : 2 + y ≡ 1). omega arith);
              untils = λ q v d. same q 66 (omega arith) (λ z _. d z);
              writings = λ q v d. ws q v;
              readings = rs;
              opens = λ q v d. refl;
            }

        row : Row (more log k t x s) t (status_at rows' p) (sees_at rows' p) (writes_at marks' p) (reads_at marks' p)
        row = row_as now refl (ap (λ (r : List ℕ). status_at r p) f) (λ y l. same p (2 + y) (omega arith) (λ _ (z : 2 + y ≡ 1). omega arith)) (ws p place) refl
          where
            now : Row (more log k t x s) t (status_at (noted_status b.rows p s w) p) (sees_at b.rows p) (writes_at b.marks p) (reads_at marks' p)
            now =
                noted_here b.rows p s w h.sized.rows p_high (λ z. Row (more log k t x s) t z (sees_at b.rows p) (writes_at b.marks p) (reads_at marks' p))
                (λ z. row_right h.accepted a.good a.grows a.row read (reads_at marks' p) m (z ∙ e))
                (λ z. row_wrong h.accepted a.good a.grows a.row read (reads_at marks' p) m (λ v. z (v ∙ sym e)))

    pub held_read : Held (more log k t x s) top count (table b.opened rows' marks' b.edges)
    held_read = go (decide (marked (writes_at b.marks p) x))
      where
        go : (marked (writes_at b.marks p) x ≡ true) ⊎ (marked (writes_at b.marks p) x ≡ false) → Held (more log k t x s) top count (table b.opened rows' marks' b.edges)
        go (inl o) =
            let w : writer log x t ≡ true = sym (a.row.writing x object) ∙ o in
            let r = n.after_own o in
            noted t (sym (provided_true _ _ w)) r.0 (ap length r.1 ∙ h.sized.marks) (λ q v. ap (λ (m : List ℕ). writes_at m q) r.1) (λ q v d. ap (λ (m : List ℕ). reads_at m q) r.1)
            (λ y l. ap (λ (m : List ℕ). marked (reads_at m p) y) r.1 ∙ marks_own h.accepted a.good a.grows a.row read w y l)
        go (inr o) =
            let w : writer log x t ≡ false = sym (a.row.writing x object) ∙ o in
            let r = n.before_own o in
            noted (sees_at b.rows p x) (a.row.seeing x object ∙ sym (provided_false _ _ w)) r.0 (ap length r.1 ∙ length-set b.marks ((p - 1) * 2 + 1) _ ∙ h.sized.marks)
            (λ q v. ap (λ (m : List ℕ). writes_at m q) r.1 ∙ writes_read b.marks p _ q) (λ q v d. ap (λ (m : List ℕ). reads_at m q) r.1 ∙ reads_away b.marks p _ q place.0 v.0 d)
            (λ y l. ap (λ (m : List ℕ). marked (reads_at m p) y) r.1 ∙ ap (λ (z : ℕ). marked z y) (reads_here b.marks p _ h.sized.marks place.0 p_high) ∙ marks_first h.accepted a.good a.grows a.row read w y l)

  -- A WRITE
  pub held_write : open_at b.opened p ≡ t → k ≡ 3 → Held (more log k t x s) top count (table b.opened b.rows (set b.marks ((p - 1) * 2) (bits.more (writes_at b.marks p) x)) b.edges)
  held_write here write =
      held_inside h a.good a.grows a.whole p place a.named touched
      (row_as (row_write h.accepted a.good a.grows a.row write) refl refl (λ y l. refl) (writes_here b.marks p _ h.sized.marks place.0 p_high) (reads_write b.marks p _ p))
      (still here (λ (z : k ≡ 4). omega arith) (λ (z : k ≡ 5). omega arith)) other (λ (z : k ≡ 4). omega arith) refl (λ y l. refl) refl refl
    where
      touched : Touched b (table b.opened b.rows (set b.marks ((p - 1) * 2) (bits.more (writes_at b.marks p) x)) b.edges) p
      touched =
          record {
            sizes = record { opened = h.sized.opened; rows = h.sized.rows; marks = length-set b.marks ((p - 1) * 2) _ ∙ h.sized.marks; edges = h.sized.edges };
            names = λ q v. refl;
            statuses = λ q v d. refl;
            seeings = λ q v y l. refl;
            untils = λ q v d. refl;
            writings = λ q v d. writes_away b.marks p _ q place.0 v.0 d;
            readings = λ q v d. reads_write b.marks p _ q;
            opens = λ q v d. refl;
          }

-- WHAT IS TAKEN
noted_names : {b : Table} {p t x s : ℕ} {rows' marks' : List ℕ} → Sized b → p ≤ 128 → NotesRead b.rows b.marks p t x s rows' marks' → (q : ℕ) → name_at rows' q ≡ name_at b.rows q
unfolding name_at
noted_names {b} {p} {t} {x} {s} {rows'} size high n q = go (decide (marked (writes_at b.marks p) x))
  where
    same : (w : ℕ) → rows' ≡ noted_status b.rows p s w → cell rows' q 0 ≡ cell b.rows q 0
    same w e = ap (λ (r : List ℕ). cell r q 0) e ∙ noted_cell b.rows p s w size.rows high q 0 (omega arith) (λ _ (z : ◌≡◌ {A = ℕ} 0 1). omega arith)

    go : (marked (writes_at b.marks p) x ≡ true) ⊎ (marked (writes_at b.marks p) x ≡ false) → cell rows' q 0 ≡ cell b.rows q 0
    go (inl o) = same t (n.after_own o).0
    go (inr o) = same (sees_at b.rows p x) (n.before_own o).0

noted_sized : {b : Table} {p t x s : ℕ} {rows' marks' : List ℕ} → Sized b → p ≤ 128 → NotesRead b.rows b.marks p t x s rows' marks' → Sized (table b.opened rows' marks' b.edges)
noted_sized {b} {p} {t} {x} {s} {rows'} {marks'} size high n = go (decide (marked (writes_at b.marks p) x))
  where
    go : (marked (writes_at b.marks p) x ≡ true) ⊎ (marked (writes_at b.marks p) x ≡ false) → Sized (table b.opened rows' marks' b.edges)
    go (inl o) = let r = n.after_own o in record { opened = size.opened; rows = ap length r.0 ∙ noted_size b.rows p s t size.rows high; marks = ap length r.1 ∙ size.marks; edges = size.edges }
    go (inr o) =
        let r = n.before_own o in
        record {
          opened = size.opened;
          rows = ap length r.0 ∙ noted_size b.rows p s (sees_at b.rows p x) size.rows high;
          marks = ap length r.1 ∙ length-set b.marks ((p - 1) * 2 + 1) _ ∙ size.marks;
          edges = size.edges;
        }

module _ {l : Live} {b : Table} {k t x s p : ℕ} (size : Sized b) (low : 1 ≤ t) (room : l.count ≤ places) (place : Place l.count p) (here : open_at b.opened p ≡ t) (fine : 0 ≡ range_number k t x s) (other : k ≡ 1 → ⊥) where
  pub inside_read : k ≡ 2 → {rows' marks' : List ℕ} → NotesRead b.rows b.marks p t x s rows' marks' → Took l b k t x s (record { live = l; said = Taken }) (table b.opened rows' marks' b.edges)
  inside_read e n =
      let high : p ≤ 128 = omega (arith, place.1) in
      took_taken l.top l.count (λ (z : k ≡ 4). omega arith) (noted_sized size high n) room (λ log y.
      let h = y.held in
      let u = wide h p place in
      let a = step_at p h low fine other u here in
      (a.numbered, tidy_inside y a.good a.grows (held_read h a u other here e n) other (λ (z : k ≡ 4). omega arith) (λ (z : k ≡ 5). omega arith) (λ q v. noted_names size high n q)))

  pub inside_write : k ≡ 3 → {marks' : List ℕ} → marks' ≡ set b.marks ((p - 1) * 2) (bits.more (writes_at b.marks p) x) → Took l b k t x s (record { live = l; said = Taken }) (table b.opened b.rows marks' b.edges)
  inside_write e f =
      rw f (took_taken l.top l.count (λ (z : k ≡ 4). omega arith) (record { opened = size.opened; rows = size.rows; marks = length-set b.marks ((p - 1) * 2) _ ∙ size.marks; edges = size.edges }) room
      (λ log y.
      let h = y.held in
      let u = wide h p place in
      let a = step_at p h low fine other u here in
      (a.numbered, tidy_inside y a.good a.grows (held_write h a u other here e) other (λ (z : k ≡ 4). omega arith) (λ (z : k ≡ 5). omega arith) (λ q v. refl))))
