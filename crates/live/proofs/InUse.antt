-- How many places are in use: as many as the log asks for.
use mathlib.Core.Path.{◌≡◌, refl, sym, ap, ◌∙◌}
use mathlib.Core.Bool.{Bool, true, false}
use mathlib.Core.Logic.{⊎_elim}
use mathlib.Core.List.{List}
use Prim.Native.Nat.{ℕ, zero, suc, ◌≤◌, ◌<◌}
use native.Mathlib.Omega.{arith}
use Rattle.words.specs.Tests.{◌is◌, ◌upto◌, ◌and◌, ◌or◌, fails, count}
use Rattle.words.proofs.Truth.{→and, or→, →fails, →isnt, upto→, →upto, →not_upto, provided_true, provided_false, count_without}
use Rattle.words.proofs.Counting.{count_into}
use Rattle.live.specs.SoFar.{numbers, is_open}
use Rattle.live.specs.Forgotten.{kept}
use Rattle.live.specs.Kept.{places, in_use, full}
use Rattle.live.specs.Inner.Table.{Table, name_at}
use Rattle.live.specs.Inner.Held.{Place, Tidy}
use Rattle.live.proofs.Accepted.{open→, committed_range}
use Rattle.live.proofs.Shut.{begun_range}
use Rattle.live.proofs.Forgetting.{forgets_committed, kept_result}
use Rattle.live.proofs.KeepingLaws.{has_number}

-- there are n numbers from 1 to n
from_one : (n : ℕ) → count (suc n) (λ i. 1 upto i) ≡ n
unfolding count
from_one zero = provided_false _ _ (→not_upto (omega arith))
from_one (suc n) = provided_true _ _ (→upto (omega arith)) ∙ ap suc (from_one n)

module _ {log : List ℕ} {top n : ℕ} {b : Table} (y : Tidy log top n b) where
  -- who has a place by the log, and by the table
  kept_is : (t : ℕ) → y.keeps t ≡ kept numbers log t
  kept_is = kept_result numbers log (λ u c. (committed_range y.held.accepted u c).1) y.keeping.forgot y.rests

  in_range : (t : ℕ) → (is_open log t or y.keeps t) ≡ true → t ≤ numbers
  in_range t e =
      ⊎_elim (λ o. (begun_range y.held.accepted t (open→ log t o).0).1) (λ k. (committed_range y.held.accepted t (forgets_committed y.keeping.forgot t k)).1) (or→ e)

  by_log : (t : ℕ) → (is_open log t or kept numbers log t) ≡ (is_open log t or y.keeps t)
  by_log t = ap (λ (z : Bool). is_open log t or z) (sym (kept_is t))

  -- EVERY PLACE IS IN USE: no place is free
  pub all_in_use : ((q : ℕ) → Place places q → 1 ≤ name_at b.rows q) → full numbers places log ≡ true
  unfolding full in_use
  all_in_use used = →upto (omega (arith, more, from_one 128))
    where
      more : count 129 (λ q. 1 upto q) ≤ count (suc numbers) (λ t. is_open log t or kept numbers log t)
      more =
          count_into 129 (suc numbers) (λ q. 1 upto q) (λ t. is_open log t or kept numbers log t) (λ q t. Place places q × (name_at b.rows q ≡ t))
          (λ (q : ℕ) (l : q < 129) (e : (1 upto q) ≡ true).
          let u : Place places q = (upto→ e, omega arith) in
          let o = y.keeping.only q u (used q u) in
          let z = in_range (name_at b.rows q) o in
          (name_at b.rows q, omega arith, by_log (name_at b.rows q) ∙ o, (u, refl)))
          (λ q r t c d. y.held.once q r c.0 d.0 (used q c.0) (c.1 ∙ sym d.1))

  -- ONE PLACE IS FREE: fewer are in use than there are
  pub one_free : (p : ℕ) → Place places p → name_at b.rows p ≡ 0 → full numbers places log ≡ false
  unfolding full in_use
  one_free p u free = →not_upto (omega (arith, fewer, others, from_one 128))
    where
      others : suc (count 129 (λ q. 1 upto q and fails (q is p))) ≡ count 129 (λ q. 1 upto q)
      others = count_without 129 (λ q. 1 upto q) p (omega (arith, u.1)) (→upto u.0)

      fewer : count (suc numbers) (λ t. is_open log t or kept numbers log t) ≤ count 129 (λ q. 1 upto q and fails (q is p))
      fewer =
          count_into (suc numbers) 129 (λ t. is_open log t or kept numbers log t) (λ q. 1 upto q and fails (q is p)) (λ t q. name_at b.rows q ≡ t)
          (λ t l e.
          let o = sym (by_log t) ∙ e in
          let r = y.keeping.placed t o in
          let z = has_number y.held y.keeping t o in
          (r.0, omega (arith, r.1.1), →and (→upto r.1.0) (→fails (→isnt (λ (w : r.0 ≡ p). let v : t ≡ 0 = sym r.2 ∙ ap (name_at b.rows) w ∙ free in omega arith))), r.2))
          (λ t v q c d. sym c ∙ d)
