-- What a transaction sees of an object, what it reads before any own write, and whether it has a wrong read; and the version edges by these.
use Rattle.std.specs.Prelude.{Bool, List, ℕ, suc}
use Rattle.words.specs.Tests.{◌is◌, ◌below◌, ◌and◌, ◌or◌, fails, some}
use Rattle.verdict.specs.Limits.{objects}
use Rattle.verdict.specs.Log.{steps, tx, obj, src, reads, wrote, writer, committed, begin_step, commit_step, write_one_object}
use Rattle.verdict.specs.Snapshot.{writer_number, last_committed, wanted}

module _ (log : List ℕ) where
  -- the number of the last writer of x to commit before step b, 0 if there is none
  unfoldable pub last_writer : ℕ → ℕ → ℕ
  last_writer b x = writer_number (last_committed log b x)

  -- what t sees of x: the last writer to commit before t began
  unfoldable pub seen : ℕ → ℕ → ℕ
  seen t x = last_writer (begin_step log t) x

  -- the source that a read at step i should name
  unfoldable pub source_wanted : ℕ → ℕ
  source_wanted i = writer_number (wanted log i)

  -- t has a wrong read
  unfoldable pub misreads : ℕ → Bool
  misreads t = some (steps log) (λ i. reads log i and tx log i is t and fails (src log i is source_wanted i))

  -- t reads x before any own write of it
  unfoldable pub reads_first : ℕ → ℕ → Bool
  reads_first x t = some (steps log) (λ i. reads log i and tx log i is t and obj log i is x and fails (wrote log i t x))

  -- on x an edge leads to b from the writer of the version that b sees, where b reads or replaces it
  unfoldable pub edge_from_seen : ℕ → ℕ → ℕ → Bool
  edge_from_seen a b x = writer log x a and (writer log x b or reads_first x b) and seen b x is a

  -- .. and from a reader to who replaces the version that it reads: both see the same one
  unfoldable pub edge_to_replacer : ℕ → ℕ → ℕ → Bool
  edge_to_replacer a b x = reads_first x a and writer log x b and seen a x is seen b x

  unfoldable pub seen_edge : ℕ → ℕ → Bool
  seen_edge a b = committed log a and committed log b and fails (a is b) and some objects (λ x. edge_from_seen a b x or edge_to_replacer a b x)

-- t writes what someone wrote who committed after t began
unfoldable pub clashes : ℕ → List ℕ → ℕ → Bool
clashes most log t = some (suc most) (λ p. committed log p and begin_step log t below commit_step log p and write_one_object log t p)
