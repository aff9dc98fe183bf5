-- The edges of the version graph, step by step.
use Rattle.std.specs.Prelude.{Bool, List, ℕ}
use Rattle.words.specs.Tests.{◌is◌, ◌below◌, ◌and◌, ◌or◌, fails, provided◌then◌else◌, some}
use Rattle.verdict.specs.Log.{steps, kind, tx, obj, src, committed}
use Rattle.verdict.specs.Clean.{judged}
use Rattle.verdict.specs.Version.{next_commit, next_version}
use Rattle.verdict.specs.Inner.Edges.{one_edge}

module _ (log : List ℕ) where
  -- the three kinds of edges, whatever their object
  unfoldable pub from_writer : ℕ → ℕ → Bool
  from_writer a b = committed log a and some (steps log) (λ i. kind log i is 3 and tx log i is a and next_version log (obj log i) a b)

  unfoldable pub from_source : ℕ → ℕ → Bool
  from_source a b = some (steps log) (λ i. judged log i and src log i is a and tx log i is b)

  unfoldable pub from_reader : ℕ → ℕ → Bool
  from_reader a b = some (steps log) (λ i. judged log i and tx log i is a and next_version log (obj log i) (src log i) b)

  unfoldable pub plain_version : ℕ → ℕ → Bool
  plain_version a b = fails (a is b) and fails (a is 0) and fails (b is 0) and (from_writer a b or from_source a b or from_reader a b)

  -- the writer of the next version of x after v's; 0 where v's is the last
  unfoldable pub next_writer : ℕ → ℕ → ℕ
  next_writer x v = provided next_commit log x v below steps log then tx log (next_commit log x v) else 0

  -- the edges of a write and of a read, each of a committed transaction; and of all steps below n
  unfoldable pub write_edges : ℕ → ℕ → ℕ → Bool
  write_edges i a b = one_edge (tx log i) (next_writer (obj log i) (tx log i)) a b

  unfoldable pub read_edges : ℕ → ℕ → ℕ → Bool
  read_edges i a b = one_edge (src log i) (tx log i) a b or one_edge (tx log i) (next_writer (obj log i) (src log i)) a b

  unfoldable pub version_step : ℕ → ℕ → ℕ → Bool
  version_step i a b = committed log (tx log i) and (kind log i is 3 and write_edges i a b or kind log i is 2 and read_edges i a b)

  unfoldable pub versions_until : ℕ → ℕ → ℕ → Bool
  versions_until n a b = some n (λ i. version_step i a b)
