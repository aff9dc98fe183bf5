-- The log with only the steps of the transactions that are marked.
use Rattle.std.specs.Prelude.{Bool, List, [], ◌∷◌, ◌++◌, ℕ, zero, suc, get_or}
use Rattle.words.specs.Tests.{◌is◌, ◌upto◌, ◌and◌, fails, provided◌then◌else◌}
use Rattle.verdict.specs.Limits.{transactions}
use Rattle.verdict.specs.Log.{kind, tx, obj, src}

-- the four numbers of step i
unfoldable pub step : List ℕ → ℕ → List ℕ
step log i = kind log i ∷ tx log i ∷ obj log i ∷ src log i ∷ []

module _ (marks : List ℕ) where
  -- t is a transaction, or 0, whose mark is not 0
  unfoldable pub marked : ℕ → Bool
  marked t = t upto transactions and fails (get_or marks t 0 is 0)

  -- step i, if its transaction is marked
  unfoldable pub kept_step : List ℕ → ℕ → List ℕ
  kept_step log i = provided marked (tx log i) then step log i else []

  -- those of the first n steps, in their order
  unfoldable pub kept : ℕ → List ℕ → List ℕ
  kept zero log = []
  kept (suc n) log = kept n log ++ kept_step log n
