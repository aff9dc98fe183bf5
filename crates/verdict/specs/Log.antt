-- A log is a run of numbers, four for each step: kind, transaction, object, source. Steps are numbered from 0.
use Rattle.std.specs.Prelude.{Bool, List, ℕ, ◌+◌, ◌*◌, ◌/◌, length, get_or}
use Rattle.words.specs.Tests.{◌is◌, ◌and◌, ◌or◌, some, count, lowest}

module _ (log : List ℕ) where
  unfoldable pub steps : ℕ
  steps = length log / 4

  -- the four numbers of step i
  unfoldable pub kind : ℕ → ℕ
  kind i = get_or log (4 * i) 0

  unfoldable pub tx : ℕ → ℕ
  tx i = get_or log (4 * i + 1) 0

  unfoldable pub obj : ℕ → ℕ
  obj i = get_or log (4 * i + 2) 0

  unfoldable pub src : ℕ → ℕ
  src i = get_or log (4 * i + 3) 0

  -- what step i is: kinds are 1 begin, 2 read, 3 write, 4 commit, 5 abort
  unfoldable pub begins : ℕ → ℕ → Bool
  begins t i = kind i is 1 and tx i is t

  unfoldable pub reads : ℕ → Bool
  reads i = kind i is 2

  unfoldable pub writes : ℕ → ℕ → ℕ → Bool
  writes t x i = kind i is 3 and tx i is t and obj i is x

  unfoldable pub commits : ℕ → ℕ → Bool
  commits t i = kind i is 4 and tx i is t

  unfoldable pub aborts : ℕ → ℕ → Bool
  aborts t i = kind i is 5 and tx i is t

  -- before step i: t has begun, t has ended, t wrote x
  unfoldable pub begun : ℕ → ℕ → Bool
  begun i t = some i (begins t)

  unfoldable pub ended : ℕ → ℕ → Bool
  ended i t = some i (λ j. commits t j or aborts t j)

  unfoldable pub wrote : ℕ → ℕ → ℕ → Bool
  wrote i t x = some i (writes t x)

  -- in the whole log: t commits, t aborts, t writes x
  unfoldable pub committed : ℕ → Bool
  committed t = some steps (commits t)

  unfoldable pub aborted : ℕ → Bool
  aborted t = some steps (aborts t)

  unfoldable pub writer : ℕ → ℕ → Bool
  writer x t = some steps (writes t x)

  -- a and b write one object
  unfoldable pub write_one_object : ℕ → ℕ → Bool
  write_one_object a b = some steps (λ i. kind i is 3 and tx i is a and writer (obj i) b)

  -- the steps at which t begins and commits
  unfoldable pub begin_step : ℕ → ℕ
  begin_step t = lowest steps (begins t)

  unfoldable pub commit_step : ℕ → ℕ
  commit_step t = lowest steps (commits t)

  -- step j commits a writer of x
  unfoldable pub commits_writer : ℕ → ℕ → Bool
  commits_writer x j = kind j is 4 and writer x (tx j)

  -- how many transactions committed: the commits in the log
  unfoldable pub committed_count : ℕ
  committed_count = count steps (λ i. kind i is 4)
