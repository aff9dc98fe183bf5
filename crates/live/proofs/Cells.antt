-- Entries of the rows, of the marks and of the open ones, where they are read and where they are stored.
use mathlib.Core.Path.{◌≡◌, refl, sym, ap, ◌∙◌}
use mathlib.Core.List.{List}
use Prim.Native.Nat.{ℕ, ◌+◌, ◌-◌, ◌*◌, ◌≤◌, ◌<◌}
use native.Mathlib.Omega.{arith}
use lib.ListN.{length, get_or, set}
use lib.Seq.{get_or-set_same, get_or-set_other}
use Rattle.live.specs.Inner.Table.{cell, name_at, status_at, sees_at, until_at, open_at, writes_at, reads_at}

module _ (rows : List ℕ) where
  pub sees_is : (p x : ℕ) → get_or rows (p * 67 + 2 + x) 0 ≡ sees_at rows p x
  unfolding sees_at cell
  sees_is p x = ap (λ (i : ℕ). get_or rows i 0) (omega arith)

  pub sees_now : (x : ℕ) → get_or rows (2 + x) 0 ≡ sees_at rows 0 x
  unfolding sees_at cell
  sees_now x = ap (λ (i : ℕ). get_or rows i 0) (omega arith)

  pub name_is : (p : ℕ) → get_or rows (p * 67) 0 ≡ name_at rows p
  unfolding name_at cell
  name_is p = ap (λ (i : ℕ). get_or rows i 0) (omega arith)

  pub status_is : (p : ℕ) → get_or rows (p * 67 + 1) 0 ≡ status_at rows p
  unfolding status_at cell
  status_is p = refl

  pub until_is : (p : ℕ) → get_or rows (p * 67 + 66) 0 ≡ until_at rows p
  unfolding until_at cell
  until_is p = refl

  -- one entry is stored
  pub stored_same : (p c i v : ℕ) → i ≡ p * 67 + c → i < length rows → cell (set rows i v) p c ≡ v
  unfolding cell
  stored_same p c i v e l = ap (λ (j : ℕ). get_or (set rows i v) j 0) (sym e) ∙ get_or-set_same rows i v 0 l

  pub stored_other : (p c i v q d : ℕ) → i ≡ p * 67 + c → c < 67 → d < 67 → ((q ≡ p) → (d ≡ c) → ⊥) → cell (set rows i v) q d ≡ cell rows q d
  unfolding cell
  stored_other p c i v q d e l m n = get_or-set_other rows i (q * 67 + d) v 0 (λ (z : q * 67 + d ≡ i). (let y : q ≡ p = omega arith in n y (omega arith)))

module _ (marks : List ℕ) where
  pub writes_is : (p : ℕ) → get_or marks ((p - 1) * 2) 0 ≡ writes_at marks p
  unfolding writes_at
  writes_is p = refl

  pub reads_is : (p : ℕ) → get_or marks ((p - 1) * 2 + 1) 0 ≡ reads_at marks p
  unfolding reads_at
  reads_is p = refl

-- a word of the marks of place p is stored, or its entry among the open ones
module _ (marks : List ℕ) (p v : ℕ) where
  pub writes_here : length marks ≡ 256 → 1 ≤ p → p ≤ 128 → writes_at (set marks ((p - 1) * 2) v) p ≡ v
  unfolding writes_at
  writes_here size low high = get_or-set_same marks ((p - 1) * 2) v 0 (omega arith)

  pub reads_here : length marks ≡ 256 → 1 ≤ p → p ≤ 128 → reads_at (set marks ((p - 1) * 2 + 1) v) p ≡ v
  unfolding reads_at
  reads_here size low high = get_or-set_same marks ((p - 1) * 2 + 1) v 0 (omega arith)

  pub writes_away : (q : ℕ) → 1 ≤ p → 1 ≤ q → (q ≡ p → ⊥) → writes_at (set marks ((p - 1) * 2) v) q ≡ writes_at marks q
  unfolding writes_at
  writes_away q low l n = get_or-set_other marks ((p - 1) * 2) ((q - 1) * 2) v 0 (λ (z : (q - 1) * 2 ≡ (p - 1) * 2). n (omega arith))

  pub reads_away : (q : ℕ) → 1 ≤ p → 1 ≤ q → (q ≡ p → ⊥) → reads_at (set marks ((p - 1) * 2 + 1) v) q ≡ reads_at marks q
  unfolding reads_at
  reads_away q low l n = get_or-set_other marks ((p - 1) * 2 + 1) ((q - 1) * 2 + 1) v 0 (λ (z : (q - 1) * 2 + 1 ≡ (p - 1) * 2 + 1). n (omega arith))

  pub writes_read : (q : ℕ) → writes_at (set marks ((p - 1) * 2 + 1) v) q ≡ writes_at marks q
  unfolding writes_at
  writes_read q = get_or-set_other marks ((p - 1) * 2 + 1) ((q - 1) * 2) v 0 (λ (z : (q - 1) * 2 ≡ (p - 1) * 2 + 1). omega arith)

  pub reads_write : (q : ℕ) → reads_at (set marks ((p - 1) * 2) v) q ≡ reads_at marks q
  unfolding reads_at
  reads_write q = get_or-set_other marks ((p - 1) * 2) ((q - 1) * 2 + 1) v 0 (λ (z : (q - 1) * 2 + 1 ≡ (p - 1) * 2). omega arith)

module _ (opened : List ℕ) (p v : ℕ) where
  pub open_here : length opened ≡ 256 → 1 ≤ p → p ≤ 128 → open_at (set opened (p - 1) v) p ≡ v
  unfolding open_at
  open_here size low high = get_or-set_same opened (p - 1) v 0 (omega arith)

  pub open_away : (q : ℕ) → 1 ≤ p → 1 ≤ q → (q ≡ p → ⊥) → open_at (set opened (p - 1) v) q ≡ open_at opened q
  unfolding open_at
  open_away q low l n = get_or-set_other opened (p - 1) (q - 1) v 0 (λ (z : q - 1 ≡ p - 1). n (omega arith))
