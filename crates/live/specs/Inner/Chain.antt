-- Edges by when transactions began and committed. The live judge keeps these. Each version edge is one of them, and, while no breach came,
-- each of them is a way along version edges: so they close the same cycles.
use Rattle.std.specs.Prelude.{Bool, List, ℕ}
use Rattle.words.specs.Tests.{◌is◌, ◌below◌, ◌upto◌, ◌and◌, ◌or◌, fails, some}
use Rattle.verdict.specs.Limits.{objects}
use Rattle.verdict.specs.Log.{kind, tx, writer, committed, begin_step, commit_step}
use Rattle.live.specs.Inner.Seen.{reads_first}

module _ (log : List ℕ) (a b x : ℕ) where
  -- on x a version leads to every later one
  unfoldable pub to_later : Bool
  to_later = writer log x a and writer log x b and commit_step log a below commit_step log b

  -- .. and to each reader that began after its commit
  unfoldable pub to_reader : Bool
  to_reader = writer log x a and reads_first log x b and commit_step log a below begin_step log b

  -- .. and a reader to every version that was committed after it began
  unfoldable pub to_unseen : Bool
  to_unseen = reads_first log x a and writer log x b and begin_step log a below commit_step log b

unfoldable pub chain_edge : List ℕ → ℕ → ℕ → Bool
chain_edge log a b = committed log a and committed log b and fails (a is b) and some objects (λ x. to_later log a b x or to_reader log a b x or to_unseen log a b x)

-- t, or a higher number, had begun before step i
unfoldable pub passed_by : List ℕ → ℕ → ℕ → Bool
passed_by log i t = some i (λ j. kind log j is 1 and t upto tx log j)
