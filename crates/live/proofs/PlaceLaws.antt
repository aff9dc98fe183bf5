-- Places found and given.
use mathlib.Core.Path.{◌≡◌, refl, sym, ap, subst, ◌∙◌}
use mathlib.Core.Bool.{true, false}
use mathlib.Core.Logic.{◌⊎◌, inl, inr, ⊎_elim}
use mathlib.Core.List.{List}
use Prim.Native.Nat.{ℕ, ◌+◌, ◌-◌, ◌*◌, ◌%◌, ◌≤◌, ◌<◌}
use native.Mathlib.Omega.{arith}
use lib.ListN.{length, get_or, set, length-set}
use Rattle.words.specs.Tests.{◌is◌}
use Rattle.words.proofs.Truth.{decide, is→, isnt→}
use Rattle.live.specs.Inner.Table.{cell, name_at, sees_at, open_at}
use Rattle.live.specs.Inner.Places.{CopiesRow, Given}
use Rattle.live.proofs.Cells.{stored_same, stored_other}

pub one_up : {r : ℕ} → (r ≡ 0 → ⊥) → 1 ≤ r
one_up n = omega arith

-- a place is p, or another
pub here_or_not : (q p : ℕ) → (q ≡ p) ⊎ (q ≡ p → ⊥)
here_or_not q p = ⊎_elim (λ (e : (q is p) ≡ true). inl (is→ e)) (λ (e : (q is p) ≡ false). inr (isnt→ e)) (decide (q is p))

-- A PLACE IS FOUND, looked for from the last on
pub open_is : (opened : List ℕ) (p : ℕ) {t : ℕ} → get_or opened (p - 1) 0 ≡ t → open_at opened p ≡ t
unfolding open_at
open_is opened p e = e

-- not at p, nor at any place from there on
pub passed_one : (opened : List ℕ) {n t : ℕ} (p : ℕ) → (get_or opened (p - 1) 0 ≡ t → ⊥) → ((q : ℕ) → p < q → q ≤ n → open_at opened q ≡ t → ⊥) → (q : ℕ) → p ≤ q → q ≤ n → open_at opened q ≡ t → ⊥
unfolding open_at
passed_one opened {n} {t} p here none q l h e = go (decide (q is p))
  where
    go : ((q is p) ≡ true) ⊎ ((q is p) ≡ false) → ⊥
    go (inl z) = here (subst (λ (i : ℕ). get_or opened (i - 1) 0 ≡ t) (is→ {m = q} {n = p} z) e)
    go (inr z) = let d : q ≡ p → ⊥ = isnt→ z in none q (omega arith) h e

-- A PLACE IS GIVEN
pub given : {opened rows marks next : List ℕ} {p t : ℕ} → length rows ≡ 8643 → 1 ≤ p → p ≤ 128 → CopiesRow rows p next
    → Given opened rows marks p t (set (set opened (p - 1) t) (128 + t % 128) p) (set (set next (p * 67) t) (p * 67 + 1) 0) (set (set marks ((p - 1) * 2) 0) ((p - 1) * 2 + 1) 0)
unfolding sees_at
given {opened} {rows} {marks} {next} {p} {t} size low high c =
    record {
      opens = refl;
      clears = refl;
      size = length-set (set next (p * 67) t) (p * 67 + 1) 0 ∙ length-set next (p * 67) t ∙ c.size;
      name = stored_other (set next (p * 67) t) p 1 (p * 67 + 1) 0 p 0 refl (omega arith) (omega arith) (λ _ (z : ◌≡◌ {A = ℕ} 0 1). omega arith) ∙ stored_same next p 0 (p * 67) t (omega arith) (omega (arith, c.size));
      status = stored_same (set next (p * 67) t) p 1 (p * 67 + 1) 0 refl (omega (arith, c.size, length-set next (p * 67) t));
      sees = λ x l. both p (2 + x) (omega arith) (λ _ (z : 2 + x ≡ 0). omega arith) (λ _ (z : 2 + x ≡ 1). omega arith) ∙ c.copied x l;
      others = λ q d h l n. both q d l (λ z _. n z) (λ z _. n z) ∙ c.others q d h l n;
    }
  where
    both : (q d : ℕ) → d < 67 → (q ≡ p → d ≡ 0 → ⊥) → (q ≡ p → d ≡ 1 → ⊥) → cell (set (set next (p * 67) t) (p * 67 + 1) 0) q d ≡ cell next q d
    both q d l m n = stored_other (set next (p * 67) t) p 1 (p * 67 + 1) 0 q d refl (omega arith) l n ∙ stored_other next p 0 (p * 67) t q d (omega arith) (omega arith) l m

-- one place more is in use, and one more is free
pub used_more : (rows : List ℕ) (p : ℕ) {n : ℕ} → n ≡ name_at rows p → (n ≡ 0 → ⊥) → ((q : ℕ) → 1 ≤ q → q < p → 1 ≤ name_at rows q) → (q : ℕ) → 1 ≤ q → q < p + 1 → 1 ≤ name_at rows q
used_more rows p e d f q l k = go (decide (q is p))
  where
    go : ((q is p) ≡ true) ⊎ ((q is p) ≡ false) → 1 ≤ name_at rows q
    go (inl z) = let y : q ≡ p = is→ z in subst (λ (i : ℕ). 1 ≤ i) (e ∙ ap (name_at rows) (sym y)) (one_up d)
    go (inr z) = let y : q ≡ p → ⊥ = isnt→ z in f q l (omega arith)

pub free_more : (rows : List ℕ) {m n : ℕ} (p : ℕ) → n ≡ name_at rows p → n ≡ 0 → ((q : ℕ) → p < q → q ≤ m → name_at rows q ≡ 0) → (q : ℕ) → p ≤ q → q ≤ m → name_at rows q ≡ 0
free_more rows p e z f q l k = go (decide (q is p))
  where
    go : ((q is p) ≡ true) ⊎ ((q is p) ≡ false) → name_at rows q ≡ 0
    go (inl y) = let w : q ≡ p = is→ y in ap (name_at rows) w ∙ sym e ∙ z
    go (inr y) = let d : q ≡ p → ⊥ = isnt→ y in f q (omega arith) k
