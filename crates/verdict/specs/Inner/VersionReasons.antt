-- The reasons of the version graph, step by step.
use Rattle.std.specs.Prelude.{Bool, List, ℕ}
use Rattle.words.specs.Tests.{◌is◌, ◌and◌, ◌or◌, some}
use Rattle.verdict.specs.Log.{kind, tx, obj, src, committed}
use Rattle.verdict.specs.Inner.VersionEdges.{next_writer}
use Rattle.verdict.specs.Inner.Reasons.{edge_on}

module _ (log : List ℕ) where
  -- the reasons of a write and of a read, each of a committed transaction; and of all steps below n
  unfoldable pub write_reasons : ℕ → ℕ → ℕ → ℕ → ℕ → Bool
  write_reasons i = edge_on (tx log i) (next_writer log (obj log i) (tx log i)) (obj log i) 1

  unfoldable pub read_reasons : ℕ → ℕ → ℕ → ℕ → ℕ → Bool
  read_reasons i a b x k = edge_on (src log i) (tx log i) (obj log i) 2 a b x k or edge_on (tx log i) (next_writer log (obj log i) (src log i)) (obj log i) 3 a b x k

  unfoldable pub step_reasons : ℕ → ℕ → ℕ → ℕ → ℕ → Bool
  step_reasons i a b x k = committed log (tx log i) and (kind log i is 3 and write_reasons i a b x k or kind log i is 2 and read_reasons i a b x k)

  unfoldable pub version_until : ℕ → ℕ → ℕ → ℕ → ℕ → Bool
  version_until n a b x k = some n (λ i. step_reasons i a b x k)
