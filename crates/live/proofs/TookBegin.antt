-- A begin is taken: 7, 18, or a place given to its transaction.
use mathlib.Core.Path.{◌≡◌, refl, ◌∙◌}
use mathlib.Core.Bool.{true, false}
use mathlib.Core.Logic.{⊎_elim}
use mathlib.Core.List.{List}
use Prim.Native.Nat.{ℕ, ◌+◌, ◌-◌, ◌*◌, ◌%◌, ◌≤◌, ◌<◌}
use native.Mathlib.Omega.{arith}
use lib.ListN.{length, set, length-set}
use lib.Seq.{get_or-set_other}
use Rattle.words.specs.Tests.{◌upto◌}
use Rattle.words.proofs.Truth.{decide, upto→, →upto, not_upto→, →not_upto}
use Rattle.live.specs.Answers.{Said, Taken}
use Rattle.live.specs.SoFar.{numbers, passed}
use Rattle.live.specs.Kept.{places, full}
use Rattle.live.specs.declared.step.Live.{Live}
use Rattle.live.specs.Inner.Table.{Table, Sized, cell, name_at, status_at, sees_at, until_at, open_at}
use Rattle.live.specs.Inner.Held.{Place, Held}
use Rattle.live.specs.Inner.Places.{FreePlace, Given}
use Rattle.live.specs.Inner.Took.{range_number, table, Took}
use Rattle.live.proofs.Grows.{more_grows, more_whole}
use Rattle.live.proofs.Accepted.{good_step}
use Rattle.live.proofs.HeldBegin.{Placed}
use Rattle.live.proofs.TidySteps.{tidy_begin}
use Rattle.live.proofs.InUse.{all_in_use, one_free}
use Rattle.live.proofs.Cells.{writes_here, writes_away, writes_read, reads_here, reads_away, reads_write, open_here, open_away}
use Rattle.live.proofs.Numbers.{number_seven, number_eighteen, begin_good}
use Rattle.live.proofs.Answering.{took_refused, took_taken}

-- a place is given
module _ {o r m e o' r' m' : List ℕ} {p t : ℕ} (size : Sized (table o r m e)) (u : Place places p) (g : Given o r m p t o' r' m') where
  away : (q c : ℕ) → q ≤ places → c < 67 → (q ≡ p → ⊥) → cell r' q c ≡ cell r q c
  away q c l k d = g.others q c l k d

  -- the marks of p are cleared, the first word and then the second
  abbrev half : List ℕ
  half = set m ((p - 1) * 2) 0

  half_size : length half ≡ 256
  half_size = length-set m ((p - 1) * 2) 0 ∙ size.marks

  -- behind the open ones stand the hints
  opens : (q : ℕ) → Place places q → open_at o' q ≡ open_at (set o (p - 1) t) q
  unfolding open_at
  opens q v = rw g.opens (get_or-set_other (set o (p - 1) t) (128 + t % 128) (q - 1) p 0 (λ (z : q - 1 ≡ 128 + t % 128). omega (arith, v.0, v.1)))

  pub given_sized : Sized (table o' r' m' e)
  given_sized =
      record {
        opened = rw g.opens (length-set (set o (p - 1) t) (128 + t % 128) p ∙ length-set o (p - 1) t ∙ size.opened);
        rows = g.size ∙ size.rows;
        marks = rw g.clears (length-set half ((p - 1) * 2 + 1) 0 ∙ half_size);
        edges = size.edges;
      }

  pub given_placed : Placed (table o r m e) (table o' r' m' e) p t
  unfolding name_at status_at sees_at until_at
  given_placed =
      record {
        sizes = given_sized;
        names = λ q v. away q 0 v.1 (omega arith);
        statuses = λ q v. away q 1 v.1 (omega arith);
        seeings = λ q l d x h. away q (2 + x) l (omega arith) d;
        untils = λ q v. away q 66 v.1 (omega arith);
        bar = away 0 66 (omega arith) (omega arith) (λ (z : 0 ≡ p). omega (arith, u.0));
        writings = λ q v d. rw g.clears (writes_read half p 0 q ∙ writes_away m p 0 q u.0 v.0 d);
        readings = λ q v d. rw g.clears (reads_away half p 0 q u.0 v.0 d ∙ reads_write m p 0 q);
        opens = λ q v d. opens q v ∙ open_away o p t q u.0 v.0 d;
        edges = refl;
        name = g.name;
        status = g.status;
        sees = λ x h. g.sees x h;
        writes = rw g.clears (writes_read half p 0 p ∙ writes_here m p 0 size.marks u.0 u.1);
        reads = rw g.clears (reads_here half p 0 half_size u.0 u.1);
        opened = opens p u ∙ open_here o p t size.opened u.0 u.1;
      }

unpassed : {log : List ℕ} {top count t : ℕ} {b : Table} → Held log top count b → 1 ≤ t → top < t → passed log t ≡ false
unpassed h low above = h.highest _ low ∙ →not_upto above

-- the place that was looked for is free, or behind those that are looked at
free_there : {log : List ℕ} {top count p : ℕ} {b : Table} → Held log top count b → FreePlace b.rows count p → p ≤ places → name_at b.rows p ≡ 0
free_there {count = count} {p} h f l = ⊎_elim (λ (e : (p upto count) ≡ true). f.free (upto→ e)) (λ (e : (p upto count) ≡ false). h.beyond p (not_upto→ e) l) (decide (p upto count))

module _ {l : Live} {o r m e : List ℕ} {k t x s : ℕ} (size : Sized (table o r m e)) (room : l.count ≤ places) (low : 1 ≤ t) (begin : k ≡ 1) (fine : 0 ≡ range_number k t x s) where
  pub begin_seven : t ≤ l.top → Took l (table o r m e) k t x s (record { live = l; said = Said.Refused 7 }) (table o r m e)
  begin_seven p = took_refused 7 (λ z. omega arith) size room (λ log y. number_seven (full numbers places) log k t x s fine begin (y.held.highest t low ∙ →upto p))

  module _ (above : l.top < t) {p : ℕ} (f : FreePlace r l.count p) where
    pub begin_eighteen : places < p → Took l (table o r m e) k t x s (record { live = l; said = Said.Refused 18 }) (table o r m e)
    begin_eighteen q = took_refused 18 (λ z. omega arith) size room (λ log y.
        number_eighteen (full numbers places) log k t x s fine begin (unpassed y.held low above) (all_in_use y (λ z v. f.used z v.0 (omega (arith, v.1)))))

    pub begin_taken : p ≤ places → {o' r' m' : List ℕ} {n : ℕ} → (l.count ≤ n) × (p ≤ n) × (n ≤ places) → Given o r m p t o' r' m'
        → Took l (table o r m e) k t x s (record { live = record { standing = l.standing; top = t; count = n }; said = Taken }) (table o' r' m' e)
    begin_taken q {n = n} bound g =
        took_taken t n (λ (w : k ≡ 4). omega arith) (given_sized size u g) bound.2
        (λ log y.
        let h = y.held in
        let free = free_there h f q in
        let a = begin_good (full numbers places) log k t x s fine begin (unpassed h low above) (one_free y p u free) in
        (a, tidy_begin y (good_step (full numbers places) log k t x s a) (more_grows log h.accepted.whole k t x s) (more_whole log h.accepted.whole k t x s) begin u free (given_placed size u g) bound.0 bound.1 bound.2))
      where
        u : Place places p
        u = (f.from_one, q)
