-- The reasons of the conflict graph, step by step.
use Rattle.std.specs.Prelude.{Bool, List, ℕ}
use Rattle.words.specs.Tests.{◌is◌, ◌and◌, ◌or◌, some}
use Rattle.graph.specs.Matrix.{in_row}
use Rattle.verdict.specs.Log.{tx}
use Rattle.verdict.specs.Conflict.{meet}
use Rattle.verdict.specs.Inner.ConflictEdges.{touched_row}

-- a step of kind l on y meets an earlier one of a in the way of kind k, by the rows
unfoldable pub meets_earlier : List ℕ → ℕ → ℕ → ℕ → ℕ → Bool
meets_earlier rows l y a k =
    k is 1 and l is 3 and in_row rows (touched_row 3 y) a
    or k is 2 and l is 2 and in_row rows (touched_row 3 y) a
    or k is 3 and l is 3 and in_row rows (touched_row 2 y) a

-- such reasons of s beside those that were on
unfoldable pub with_earlier : (ℕ → ℕ → ℕ → ℕ → Bool) → List ℕ → ℕ → ℕ → ℕ → ℕ → ℕ → ℕ → ℕ → Bool
with_earlier on rows s l y a b x k = on a b x k or (s is a and y is x and meets_earlier rows l y s k)

-- the reasons whose later step is below n
unfoldable pub conflict_until : List ℕ → ℕ → ℕ → ℕ → ℕ → ℕ → Bool
conflict_until log n a b x k = some n (λ j. tx log j is b and some j (λ i. tx log i is a and meet log x k i j))
