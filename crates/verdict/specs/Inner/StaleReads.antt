-- Reads that name another than the last committed writer before their snapshot, whatever the reader itself wrote.
use Rattle.std.specs.Prelude.{Bool, List, ℕ}
use Rattle.words.specs.Tests.{◌is◌, ◌and◌, fails}
use Rattle.verdict.specs.Log.{tx, obj, src}
use Rattle.verdict.specs.Clean.{judged_other}
use Rattle.verdict.specs.Snapshot.{writer_number, snapshot_step, last_committed}

module _ (log : List ℕ) where
  unfoldable pub stale_read : ℕ → Bool
  stale_read i = judged_other log i and fails (src log i is writer_number (last_committed log (snapshot_step log (tx log i)) (obj log i)))
