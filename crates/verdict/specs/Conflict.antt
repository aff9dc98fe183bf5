-- The conflict verdict. Sources play no part in it. Transactions are at most `most`.
use Rattle.std.specs.Prelude.{Bool, List, ℕ}
use Rattle.words.specs.Tests.{◌is◌, ◌and◌, ◌or◌, fails, some}
use Rattle.verdict.specs.Log.{steps, kind, tx, obj, committed}
use Rattle.verdict.specs.Dependency.{some_dependency}
use Rattle.verdict.specs.Outcome.{Outcome, OfGraph}

module _ (log : List ℕ) where
  -- steps i and j touch x, at least one writing: what each does to it is the kind
  unfoldable pub meet : ℕ → ℕ → ℕ → ℕ → Bool
  meet x k i j =
      obj log i is x and obj log j is x
      and (k is 1 and kind log i is 3 and kind log j is 3
      or k is 2 and kind log i is 3 and kind log j is 2
      or k is 3 and kind log i is 2 and kind log j is 3)

  -- a conflict of kind k on x: steps of a and b meet, the earlier step first
  unfoldable pub conflict_on : ℕ → ℕ → ℕ → ℕ → Bool
  conflict_on a b x k = some (steps log) (λ j. tx log j is b and some j (λ i. tx log i is a and meet x k i j))

  -- an edge joins two different committed transactions with a conflict of some kind on some object
  unfoldable pub conflict_edge : ℕ → ℕ → Bool
  conflict_edge a b = fails (a is b) and committed log a and committed log b and some_dependency (conflict_on a b)

abbrev pub Conflict : (most : ℕ) (log : List ℕ) → Outcome → Type 0
Conflict most log = OfGraph most log (conflict_edge log) (conflict_on log)
