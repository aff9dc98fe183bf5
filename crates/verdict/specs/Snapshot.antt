-- The snapshot verdict. Transactions are at most `most`.
use Rattle.std.specs.Prelude.{Bool, List, ℕ, suc}
use Rattle.words.specs.Tests.{◌is◌, ◌below◌, ◌and◌, ◌or◌, fails, provided◌then◌else◌, some, lowest, highest}
use Rattle.verdict.specs.Log.{steps, kind, tx, obj, src, committed, begin_step, commit_step, commits_writer, write_one_object}
use Rattle.verdict.specs.Clean.{judged_other, after_own_write}
use Rattle.verdict.specs.Answers.{Writer, Store, Committed, Reader, Snapshot, Read, Write}

-- a writer's number: the store is writer 0
unfoldable pub writer_number : Writer → ℕ
writer_number Store = 0
writer_number (Committed t s) = t
writer_number (Reader t) = t

module _ (log : List ℕ) where
  -- where t's snapshot lies: the step at which it begins
  unfoldable pub snapshot_step : ℕ → ℕ
  snapshot_step t = begin_step log t

  -- the last step before b that commits a writer of x; b if there is none
  unfoldable pub last_commit : ℕ → ℕ → ℕ
  last_commit b x = highest b (commits_writer log x)

  -- the last transaction to commit, before step b, among the committed writers of x, and the step of its commit; the store if there is none
  unfoldable pub last_committed : ℕ → ℕ → Writer
  last_committed b x = provided last_commit b x below b then Committed (tx log (last_commit b x)) (last_commit b x) else Store

  -- what read i should have found: after its own write the reader itself, else the last committed writer of its object before its transaction's snapshot
  unfoldable pub wanted : ℕ → Writer
  wanted i = provided after_own_write log i then Reader (tx log i) else last_committed (snapshot_step (tx log i)) (obj log i)

  -- a judged read from another that names anyone else
  unfoldable pub wrong_read : ℕ → Bool
  wrong_read i = judged_other log i and fails (src log i is writer_number (wanted i))

  -- a and b overlap: each begins before the other commits
  unfoldable pub overlap : ℕ → ℕ → Bool
  overlap a b = snapshot_step a below commit_step log b and snapshot_step b below commit_step log a

  -- step j commits the later of two clashing writers, and p is its partner, who committed earlier
  unfoldable pub clash : ℕ → ℕ → Bool
  clash j p =
      kind log j is 4 and committed log p and commit_step log p below j
      and overlap (tx log j) p and write_one_object log (tx log j) p

module _ (most : ℕ) (log : List ℕ) where
  unfoldable pub wrong_commit : ℕ → Bool
  wrong_commit j = some (suc most) (clash log j)

  unfoldable pub wrong_step : ℕ → Bool
  wrong_step i = wrong_read log i or wrong_commit i

  -- the fault of a wrong step: a read with what it should have found, or a write with its lowest-numbered partner
  unfoldable pub snapshot_fault : ℕ → Snapshot
  snapshot_fault k = provided wrong_read log k then Read k (wanted log k) else Write k (lowest (suc most) (clash log k))

  -- the verdict: yes, or the lowest wrong step
  unfoldable pub snapshot_verdict : Snapshot
  snapshot_verdict = provided some (steps log) wrong_step then snapshot_fault (lowest (steps log) wrong_step) else Snapshot.Yes
