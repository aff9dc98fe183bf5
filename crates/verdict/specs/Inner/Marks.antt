-- Marks that say who committed, and tables of first steps.
use Rattle.std.specs.Prelude.{◌≡◌, Bool, List, ℕ, ◌≤◌, get_or}
use Rattle.words.specs.Tests.{◌is◌, ◌and◌, lowest}
use Rattle.graph.specs.Matrix.{takes_part}
use Rattle.verdict.specs.Limits.{transactions}
use Rattle.verdict.specs.Log.{steps, kind, tx, committed}

module _ (log : List ℕ) where
  -- the marks say who committed; those of transaction 1 come first
  pub record Committed (part : List ℕ) : Type 0 where
    pub mark : (t : ℕ) → takes_part transactions part t ≡ committed log t

  -- step i is one of kind k by t
  unfoldable pub does : ℕ → ℕ → ℕ → Bool
  does k t i = kind log i is k and tx log i is t

  -- the table has, for each transaction, its first step of kind k
  pub record FirstSteps (k : ℕ) (table : List ℕ) : Type 0 where
    pub entry : (t : ℕ) → t ≤ transactions → get_or table t 0 ≡ lowest (steps log) (does k t)
