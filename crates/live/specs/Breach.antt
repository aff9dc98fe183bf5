-- A breach: 01's snapshot verdict is no, where a read whose source would get 9 is wrong too. One whose source would once have got 10 is wrong by
-- the snapshot verdict itself. Transactions are at most `most`.
use Rattle.std.specs.Prelude.{Bool, List, ℕ}
use Rattle.words.specs.Tests.{◌is◌, ◌and◌, ◌or◌, fails, some}
use Rattle.verdict.specs.Log.{steps, obj, src, wrote}
use Rattle.verdict.specs.Clean.{judged}
use Rattle.verdict.specs.Snapshot.{wrong_read, wrong_commit}

module _ (log : List ℕ) where
  -- 9: the source is not 0 and wrote the object in no earlier step
  unfoldable pub no_writer : ℕ → Bool
  no_writer i = fails (src log i is 0) and fails (wrote log i (src log i) (obj log i))

  -- a read of a committed transaction with a wrong source
  unfoldable pub misread : ℕ → Bool
  misread i = judged log i and no_writer i or wrong_read log i

-- some read of a committed transaction is wrong, or two committed writers clash
unfoldable pub breached : ℕ → List ℕ → Bool
breached most log = some (steps log) (λ i. misread log i or wrong_commit most log i)
