-- The log so far: the steps accepted until now, and behind them an abort for each transaction still open. Transactions are at most `most`.
use Rattle.std.specs.Prelude.{Bool, List, [], ◌∷◌, ◌++◌, ℕ, zero, suc}
use Rattle.words.specs.Tests.{◌is◌, ◌upto◌, ◌and◌, fails, provided◌then◌else◌, some}
use Rattle.verdict.specs.Log.{steps, kind, tx, begun, ended}

-- numbers of transactions are 1..65,535 here
abbrev pub numbers : ℕ
numbers = 65535

-- one step more: its kind, transaction, object and source
unfoldable pub more : List ℕ → ℕ → ℕ → ℕ → ℕ → List ℕ
more log k t x s = log ++ k ∷ t ∷ x ∷ s ∷ []

module _ (log : List ℕ) where
  -- t has begun and not ended
  unfoldable pub is_open : ℕ → Bool
  is_open t = begun log (steps log) t and fails (ended log (steps log) t)

  -- t, or a higher number, has begun
  unfoldable pub passed : ℕ → Bool
  passed t = some (steps log) (λ i. kind log i is 1 and t upto tx log i)

  -- an abort behind the log for each open transaction below n
  unfoldable pub shut : ℕ → List ℕ
  shut zero = log
  shut (suc n) = provided is_open n then more (shut n) 5 n 0 0 else shut n

unfoldable pub so_far : ℕ → List ℕ → List ℕ
so_far most log = shut log (suc most)
