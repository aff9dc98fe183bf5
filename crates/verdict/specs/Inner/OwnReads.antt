-- Reads after their transaction's own write of the object, judged or not.
use Rattle.std.specs.Prelude.{Bool, List, ℕ}
use Rattle.words.specs.Tests.{◌is◌, ◌and◌, fails}
use Rattle.verdict.specs.Log.{tx, src, reads}
use Rattle.verdict.specs.Clean.{after_own_write}

module _ (log : List ℕ) where
  -- step i is such a read, from another
  unfoldable pub misses : ℕ → Bool
  misses i = reads log i and fails (src log i is tx log i) and after_own_write log i
