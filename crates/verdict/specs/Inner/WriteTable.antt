-- Tables of marks: for each transaction one number, whose mark x is set exactly when the transaction writes x.
use Rattle.std.specs.Prelude.{◌≡◌, List, ℕ, suc, ◌≤◌, ◌<◌, length, get_or}
use Rattle.words.specs.Tests.{◌is◌, ◌upto◌, ◌and◌, ◌or◌, some}
use Rattle.bits.specs.Word.{marked}
use Rattle.verdict.specs.Limits.{transactions, objects}
use Rattle.verdict.specs.Log.{steps, writes, wrote, writer}

module _ (log : List ℕ) where
  -- the versions that are there before step i: those of the store, and those that are written
  pub record Versions (i : ℕ) (table : List ℕ) : Type 0 where
    pub mark : (t x : ℕ) → t ≤ transactions → x < objects → marked (get_or table t 0) x ≡ (t is 0 or wrote log i t x)

  -- in the whole log
  pub record WriteTable (table : List ℕ) : Type 0 where
    pub mark : (t x : ℕ) → t ≤ transactions → x < objects → marked (get_or table t 0) x ≡ writer log x t

  -- from step i on
  pub record WritesFrom (i : ℕ) (table : List ℕ) : Type 0 where
    pub size : length table ≡ suc transactions
    pub mark : (t x : ℕ) → t ≤ transactions → x < objects → marked (get_or table t 0) x ≡ some (steps log) (λ j. i upto j and writes log t x j)
