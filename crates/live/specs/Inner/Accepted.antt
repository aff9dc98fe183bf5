-- What is known of the steps accepted. Transactions are at most `most`.
use Rattle.std.specs.Prelude.{◌≡◌, true, false, ◌⊎◌, List, ℕ, ◌*◌, ◌≤◌, ◌<◌, length}
use Rattle.verdict.specs.Limits.{objects}
use Rattle.verdict.specs.Log.{steps, kind, tx, obj, begun, ended}

-- the run has four numbers for each step
abbrev pub Whole : List ℕ → Type 0
Whole log = length log ≡ 4 * steps log

pub record Accepted (most : ℕ) (log : List ℕ) : Type 0 where
  pub whole : Whole log
  -- transactions are 1 to `most`, and objects of reads and writes 0..63
  pub range : (i : ℕ) → i < steps log → (1 ≤ tx log i) × (tx log i ≤ most)
  pub object : (i : ℕ) → i < steps log → (kind log i ≡ 2) ⊎ (kind log i ≡ 3) → obj log i < objects
  -- numbers rise with each begin
  pub rise : (i j : ℕ) → i < j → j < steps log → kind log i ≡ 1 → kind log j ≡ 1 → tx log i < tx log j
  -- any other step is of a transaction that has begun and not ended
  pub has_begun : (j : ℕ) → j < steps log → (kind log j ≡ 1 → ⊥) → begun log j (tx log j) ≡ true
  pub not_ended : (j : ℕ) → j < steps log → (kind log j ≡ 1 → ⊥) → ended log j (tx log j) ≡ false
