-- The version verdict: an object's versions are writer 0 and then its committed writers in commit order. Transactions are at most `most`.
use Rattle.std.specs.Prelude.{◌≡◌, Bool, List, ℕ, suc}
use Rattle.words.specs.Tests.{◌is◌, ◌below◌, ◌upto◌, ◌and◌, ◌or◌, fails, provided◌then◌else◌, some, lowest}
use Rattle.verdict.specs.Log.{steps, tx, obj, src, committed, writer, commit_step, commits_writer}
use Rattle.verdict.specs.Clean.{cleanness, judged}
use Rattle.verdict.specs.Dependency.{some_dependency}
use Rattle.verdict.specs.Outcome.{Outcome, unclean, OfGraph}
use Rattle.verdict.specs.Answers.{Fault, Cleanness}

module _ (log : List ℕ) where
  -- from which step on a version after v's may be committed: the log's first for writer 0
  unfoldable pub versions_from : ℕ → ℕ
  versions_from v = provided v is 0 then 0 else suc (commit_step log v)

  -- the step that commits the next version of x after v's; the number of steps if v's is the last
  unfoldable pub next_commit : ℕ → ℕ → ℕ
  next_commit x v = lowest (steps log) (λ j. versions_from v upto j and commits_writer log x j)

  -- u wrote the next version of x after v's
  unfoldable pub next_version : ℕ → ℕ → ℕ → Bool
  next_version x v u = next_commit x v below steps log and tx log (next_commit x v) is u

  -- from a writer of x to the writer of the next version
  unfoldable pub writer_to_next : ℕ → ℕ → ℕ → Bool
  writer_to_next a b x = committed log a and writer log x a and next_version x a b

  -- from a source to its reader of x
  unfoldable pub source_to_reader : ℕ → ℕ → ℕ → Bool
  source_to_reader a b x = some (steps log) (λ i. judged log i and obj log i is x and src log i is a and tx log i is b)

  -- from a reader of x to the writer of the version after the one read
  unfoldable pub reader_to_next : ℕ → ℕ → ℕ → Bool
  reader_to_next a b x = some (steps log) (λ i. judged log i and obj log i is x and tx log i is a and next_version x (src log i) b)

  -- a dependency of kind k on x
  unfoldable pub version_on : ℕ → ℕ → ℕ → ℕ → Bool
  version_on a b x k =
      k is 1 and writer_to_next a b x
      or k is 2 and source_to_reader a b x
      or k is 3 and reader_to_next a b x

  -- an edge is one of some kind on some object; edges at writer 0 and from a transaction to itself are dropped
  unfoldable pub version_edge : ℕ → ℕ → Bool
  version_edge a b = fails (a is b) and fails (a is 0) and fails (b is 0) and some_dependency (version_on a b)

pub data Version (most : ℕ) (log : List ℕ) : Outcome → Type 0 where
  version : {a : Outcome} → cleanness log ≡ Cleanness.Yes → OfGraph most log (version_edge log) (version_on log) a → Version most log a
  version_unclean : {f : Fault} → cleanness log ≡ Cleanness.Unclean f → Version most log (unclean f)
