-- What a step notes, and the last writers of now.
use mathlib.Core.Path.{◌≡◌, refl, sym, ap, ◌∙◌}
use mathlib.Core.Bool.{Bool, true, false}
use mathlib.Core.Logic.{◌⊎◌, inl, inr}
use mathlib.Core.List.{List}
use Prim.Native.Nat.{ℕ, ◌+◌, ◌-◌, ◌*◌, ◌≤◌, ◌<◌}
use native.Mathlib.Omega.{arith}
use lib.ListN.{length, set, length-set}
use Rattle.words.specs.Tests.{◌is◌, ◌below◌, ◌and◌, fails, provided◌then◌else◌, some}
use Rattle.words.proofs.Truth.{decide, not_both, and→, →and, and_no_left, and_no_right, and_true_right, →fails, →not_fails, is→, isnt→, below→, →below, not_below→, provided_true, provided_false, none→}
use Rattle.bits.specs.Word.{marked, more, less}
use Rattle.bits.proofs.Marks.{marked_less}
use Rattle.bits.proofs.Walks.{turned, unturned}
use Rattle.live.specs.Inner.Table.{Table, Sized, cell, status_at, sees_at, until_at, writes_at, reads_at}
use Rattle.live.specs.Inner.Noting.{noted_status, NotesRead, PutsLast}
use Rattle.live.specs.Inner.Around.{JoinsAround}
use Rattle.live.specs.Inner.Forgetting.{lowered}
use Rattle.live.specs.Inner.Took.{table, Settles}
use Rattle.live.proofs.Cells.{stored_same, stored_other}

-- A READ, after an own write and before any
module _ (rows marks : List ℕ) (p t x s : ℕ) {w : ℕ} {own : Bool} (e : w ≡ writes_at marks p) (m : own ≡ marked w x) where
  own_is : own ≡ marked (writes_at marks p) x
  own_is = m ∙ ap (λ (v : ℕ). marked v x) e

  pub noted_after : own ≡ true → {rows' : List ℕ} → rows' ≡ noted_status rows p s t → NotesRead rows marks p t x s rows' marks
  noted_after o f = record { after_own = λ _. (f, refl); before_own = λ n. absurd (not_both (sym own_is ∙ o) n) }

  pub noted_before : own ≡ false → {rows' : List ℕ} {r v q : ℕ} → r ≡ reads_at marks p → x < 64 → v ≡ (provided x below 64 then more r x else r) → q ≡ sees_at rows p x → rows' ≡ noted_status rows p s q
      → NotesRead rows marks p t x s rows' (set marks ((p - 1) * 2 + 1) v)
  noted_before o {rows'} {r} {v} {q} a l b c f =
      record {
        after_own = λ n. absurd (not_both n (sym own_is ∙ o));
        before_own = λ _. (f ∙ ap (noted_status rows p s) c, ap (set marks ((p - 1) * 2 + 1)) (b ∙ provided_true _ _ (→below l) ∙ ap (λ (z : ℕ). more z x) a));
      }

-- THE LAST WRITERS: t was put at those marked that are not left
pub record Putting (rows : List ℕ) (marks t left : ℕ) (next : List ℕ) : Type 0 where
  pub size : length next ≡ length rows
  pub last : (x : ℕ) → x < 64 → sees_at next 0 x ≡ (provided marked marks x and fails (marked left x) then t else sees_at rows 0 x)
  pub part : (x : ℕ) → marked left x ≡ true → marked marks x ≡ true
  pub others : (q c : ℕ) → (q ≡ 0 → c < 66 → ⊥) → c < 67 → cell next q c ≡ cell rows q c

pub putting_none : (rows : List ℕ) (marks t : ℕ) → Putting rows marks t marks rows
putting_none rows marks t =
    record {
      size = refl;
      last = λ x l. sym (provided_false _ _ (go x (decide (marked marks x))));
      part = λ x h. h;
      others = λ q c h l. refl;
    }
  where
    go : (x : ℕ) → (marked marks x ≡ true) ⊎ (marked marks x ≡ false) → (marked marks x and fails (marked marks x)) ≡ false
    go x (inl e) = and_no_right _ (→not_fails e)
    go x (inr e) = and_no_left _ e

module _ {rows next : List ℕ} {marks t left : ℕ} (c : Putting rows marks t left next) where
  pub putting_more : (y i : ℕ) → y < 64 → marked left y ≡ true → length rows ≡ 8643 → i ≡ 2 + y → Putting rows marks t (less left y) (set next i t)
  unfolding sees_at
  putting_more y i l m size e =
      record {
        size = length-set next i t ∙ c.size;
        last = λ x h. go x h (decide (x is y));
        part = λ x h. c.part x (and→ (sym (marked_less left y x) ∙ h)).0;
        others = λ q d h k. stored_other next 0 (2 + y) i t q d (omega arith) (omega arith) k (λ (z : q ≡ 0) (f : d ≡ 2 + y). h z (omega arith)) ∙ c.others q d h k;
      }
    where
      go : (x : ℕ) → x < 64 → ((x is y) ≡ true) ⊎ ((x is y) ≡ false) → cell (set next i t) 0 (2 + x) ≡ (provided marked marks x and fails (marked (less left y) x) then t else cell rows 0 (2 + x))
      go x h (inl f) =
          let z : x ≡ y = is→ f in
          rw z (stored_same next 0 (2 + y) i t (omega arith) (omega (arith, c.size)) ∙ sym (provided_true _ _ (→and (c.part y m) (→fails (turned left y)))))
      go x h (inr f) =
          let n : x ≡ y → ⊥ = isnt→ f in
          stored_other next 0 (2 + y) i t 0 (2 + x) (omega arith) (omega arith) (omega arith) (λ _ (z : 2 + x ≡ 2 + y). n (omega arith)) ∙ c.last x h
          ∙ ap (λ (b : Bool). provided marked marks x and fails b then t else cell rows 0 (2 + x)) (sym (unturned left y x f))

  pub putting_all : some 64 (marked left) ≡ false → PutsLast rows marks t next
  putting_all n =
      record {
        size = c.size;
        last = λ x l. c.last x l ∙ ap (λ (b : Bool). provided b then t else sees_at rows 0 x) (and_true_right _ (→fails (none→ (marked left) n x l)));
        others = c.others;
      }

-- THE NUMBER OF ROW 0 is not above `top`
module _ (rows : List ℕ) (top : ℕ) (size : length rows ≡ 8643) where
  lowered_cases : (P : List ℕ → Type 0) → (top < until_at rows 0 → P (set rows 66 top)) → (until_at rows 0 ≤ top → P rows) → P (lowered rows top)
  unfolding lowered
  lowered_cases P low high = go (decide (top below until_at rows 0))
    where
      go : ((top below until_at rows 0) ≡ true) ⊎ ((top below until_at rows 0) ≡ false) → P (provided top below until_at rows 0 then set rows 66 top else rows)
      go (inl e) = rw (provided_true (set rows 66 top) rows e) (low (below→ e))
      go (inr e) = rw (provided_false (set rows 66 top) rows e) (high (not_below→ e))

  pub lowered_size : length (lowered rows top) ≡ 8643
  lowered_size = lowered_cases (λ r. length r ≡ 8643) (λ _. length-set rows 66 top ∙ size) (λ _. size)

  pub lowered_cell : (q c : ℕ) → c < 67 → (q ≡ 0 → c ≡ 66 → ⊥) → cell (lowered rows top) q c ≡ cell rows q c
  lowered_cell q c l d = lowered_cases (λ r. cell r q c ≡ cell rows q c) (λ _. stored_other rows 0 66 66 top q c (omega arith) (omega arith) l d) (λ _. refl)

  pub lowered_bar : (until_at (lowered rows top) 0 ≤ top) × (until_at (lowered rows top) 0 ≤ until_at rows 0)
  lowered_bar = lowered_cases (λ r. (until_at r 0 ≤ top) × (until_at r 0 ≤ until_at rows 0)) (λ l. let e : until_at (set rows 66 top) 0 ≡ top = stored in (omega arith, omega arith)) (λ l. (l, omega arith))
    where
      stored : until_at (set rows 66 top) 0 ≡ top
      stored = unfold until_at in (stored_same rows 0 66 66 top (omega arith) (omega arith))

-- A COMMIT IS KEPT
pub settled : {b : Table} {before after rows edges : List ℕ} {p t top n w : ℕ} → Sized b → 1 ≤ p → p ≤ 128 → w ≡ writes_at b.marks p → JoinsAround b.edges before after p n edges → PutsLast b.rows w t rows
    → {rows' : List ℕ} → rows' ≡ lowered (set (set rows (p * 67 + 1) 2) (p * 67 + 66) top) top → Settles b before after p t top n (table (set b.opened (p - 1) 0) rows' b.marks edges)
unfolding status_at sees_at until_at
settled {b} {rows = rows} {p = p} {t = t} {top = top} size low high e j c {rows'} f =
    record {
      closes = refl;
      joins = j;
      size = ap length f ∙ lowered_size (set (set rows (p * 67 + 1) 2) (p * 67 + 66) top) top stored_size ∙ sym size.rows;
      status = lower p 1 (omega arith) (λ (z : p ≡ 0) _. omega arith) ∙ stored_other (set rows (p * 67 + 1) 2) p 66 (p * 67 + 66) top p 1 refl (omega arith) (omega arith) (λ _ (z : ◌≡◌ {A = ℕ} 1 66). omega arith) ∙ stored_same rows p 1 (p * 67 + 1) 2 refl (omega (arith, c.size, size.rows));
      until = lower p 66 (omega arith) (λ (z : p ≡ 0) _. omega arith) ∙ stored_same (set rows (p * 67 + 1) 2) p 66 (p * 67 + 66) top refl (omega (arith, c.size, size.rows, length-set rows (p * 67 + 1) 2));
      bar = bar;
      last = λ x l. lower 0 (2 + x) (omega arith) (λ _ (z : 2 + x ≡ 66). omega arith) ∙ both 0 (2 + x) (omega arith) (λ (z : 0 ≡ p) _. omega arith) (λ (z : 0 ≡ p) _. omega arith) ∙ c.last x l ∙ ap (λ (v : ℕ). provided marked v x then t else cell b.rows 0 (2 + x)) e;
      others = λ q d h l m n. lower q d l (λ (z : q ≡ 0) _. omega arith) ∙ both q d l m n ∙ c.others q d (λ (z : q ≡ 0) _. omega arith) l;
    }
  where
    stored_size : length (set (set rows (p * 67 + 1) 2) (p * 67 + 66) top) ≡ 8643
    stored_size = length-set (set rows (p * 67 + 1) 2) (p * 67 + 66) top ∙ length-set rows (p * 67 + 1) 2 ∙ c.size ∙ size.rows

    lower : (q d : ℕ) → d < 67 → (q ≡ 0 → d ≡ 66 → ⊥) → cell rows' q d ≡ cell (set (set rows (p * 67 + 1) 2) (p * 67 + 66) top) q d
    lower q d l n = ap (λ (r : List ℕ). cell r q d) f ∙ lowered_cell (set (set rows (p * 67 + 1) 2) (p * 67 + 66) top) top stored_size q d l n

    both : (q d : ℕ) → d < 67 → (q ≡ p → d ≡ 1 → ⊥) → (q ≡ p → d ≡ 66 → ⊥) → cell (set (set rows (p * 67 + 1) 2) (p * 67 + 66) top) q d ≡ cell rows q d
    both q d l m n = stored_other (set rows (p * 67 + 1) 2) p 66 (p * 67 + 66) top q d refl (omega arith) l n ∙ stored_other rows p 1 (p * 67 + 1) 2 q d refl (omega arith) l m

    bar : (cell rows' 0 66 ≤ top) × (cell rows' 0 66 ≤ cell b.rows 0 66)
    bar =
        let l = lowered_bar (set (set rows (p * 67 + 1) 2) (p * 67 + 66) top) top stored_size in
        let g : cell rows' 0 66 ≡ cell (lowered (set (set rows (p * 67 + 1) 2) (p * 67 + 66) top) top) 0 66 = ap (λ (r : List ℕ). cell r 0 66) f in
        let i : cell (set (set rows (p * 67 + 1) 2) (p * 67 + 66) top) 0 66 ≡ cell b.rows 0 66 = both 0 66 (omega arith) (λ (z : 0 ≡ p) _. omega arith) (λ (z : 0 ≡ p) _. omega arith) ∙ c.others 0 66 (λ _ (z : 66 < 66). omega arith) (omega arith) in
        (omega (arith, l.0), omega (arith, l.1))
