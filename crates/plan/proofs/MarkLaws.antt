-- Marks of transactions in a table, one set or taken away.
use mathlib.Core.Path.{◌≡◌, sym, ap, fun_ext, ◌∙◌}
use mathlib.Core.Bool.{true, false, not}
use mathlib.Core.Logic.{◌⊎◌, inl, inr, ⊎_elim}
use mathlib.Core.List.{List}
use Prim.Native.Nat.{ℕ, ◌≤◌, ◌<◌}
use native.Mathlib.Omega.{arith}
use lib.ListN.{length, get_or, set, replicate, length-replicate, get_or-replicate, get_or-eq_default}
use lib.Dec.{eqb}
use lib.Seq.{get_or-set_same, get_or-set_other}
use Rattle.words.specs.Tests.{◌is◌, ◌below◌, ◌and◌, fails}
use Rattle.words.proofs.Truth.{decide, and_no_right, and_true_right, →fails, →not_fails, not_fails, is→, →is, isnt→, →isnt, below→, not_below→}
use Rattle.plan.specs.TakenBack.{◌but◌}
use Rattle.plan.specs.Inner.Marks.{marked}

module _ (marks : List ℕ) where
  -- what the code asks
  pub marked_is : (t : ℕ) → not (eqb (get_or marks t 0) 0) ≡ marked marks t
  unfolding marked ◌is◌
  marked_is t = not_fails _

  pub marked_no : (t : ℕ) → get_or marks t 0 ≡ 0 → marked marks t ≡ false
  unfolding marked
  marked_no t z = →not_fails (→is z)

  pub marked_yes : (t : ℕ) → (get_or marks t 0 ≡ 0 → ⊥) → marked marks t ≡ true
  unfolding marked
  marked_yes t z = →fails (→isnt z)

  -- behind the table nobody is marked
  pub marked_beyond : (t : ℕ) → length marks ≤ t → marked marks t ≡ false
  marked_beyond t h = marked_no t (get_or-eq_default marks 0 h)

  module _ (t v : ℕ) where
    pub marked_set_same : t < length marks → marked (set marks t v) t ≡ fails (v is 0)
    unfolding marked
    marked_set_same h = ap (λ (n : ℕ). fails (n is 0)) (get_or-set_same marks t v 0 h)

    pub marked_set_other : (u : ℕ) → (u ≡ t → ⊥) → marked (set marks t v) u ≡ marked marks u
    unfolding marked
    marked_set_other u n = ap (λ (m : ℕ). fails (m is 0)) (get_or-set_other marks t u v 0 n)

  -- one mark taken away
  pub marked_without : (t : ℕ) → t < length marks → marked (set marks t 0) ≡ (marked marks but t)
  unfolding ◌but◌ fails ◌is◌
  marked_without t h = fun_ext (λ u. go u (decide (u is t)))
    where
      go : (u : ℕ) → ((u is t) ≡ true) ⊎ ((u is t) ≡ false) → marked (set marks t 0) u ≡ (marked marks u and fails (u is t))
      go u (inl e) = ap (marked (set marks t 0)) (is→ e) ∙ marked_set_same t 0 h ∙ sym (and_no_right (marked marks u) (→not_fails e))
      go u (inr e) = marked_set_other t 0 u (isnt→ e) ∙ sym (and_true_right _ (→fails e))

  -- a mark set anew where there is one
  pub marked_again : (t : ℕ) → t < length marks → marked marks t ≡ true → marked (set marks t 1) ≡ marked marks
  unfolding fails ◌is◌
  marked_again t h m = fun_ext (λ u. go u (decide (u is t)))
    where
      go : (u : ℕ) → ((u is t) ≡ true) ⊎ ((u is t) ≡ false) → marked (set marks t 1) u ≡ marked marks u
      go u (inl e) = ap (marked (set marks t 1)) (is→ e) ∙ marked_set_same t 1 h ∙ sym m ∙ ap (marked marks) (sym (is→ e))
      go u (inr e) = marked_set_other t 1 u (isnt→ e)

-- in a table of zeros nobody is marked
pub zeros_unmarked : (n t : ℕ) → marked (replicate n 0) t ≡ false
zeros_unmarked n t = ⊎_elim (λ (h : (t below n) ≡ true). marked_no (replicate n 0) t (get_or-replicate n t 0 0 (below→ h)))
    (λ (h : (t below n) ≡ false). let l : length (replicate {A = ℕ} n 0) ≡ n = length-replicate {A = ℕ} n 0 in marked_beyond (replicate n 0) t (omega (arith, not_below→ h))) (decide (t below n))
