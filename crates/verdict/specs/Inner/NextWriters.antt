-- The table of the writers of the next versions, filled from the last commit to the first.
use Rattle.std.specs.Prelude.{◌≡◌, true, List, ℕ, ◌+◌, ◌*◌, ◌≤◌, ◌<◌, length, get_or}
use Rattle.words.specs.Tests.{◌is◌, ◌and◌, ◌or◌, provided◌then◌else◌}
use Rattle.bits.specs.Word.{marked}
use Rattle.verdict.specs.Limits.{transactions, objects}
use Rattle.verdict.specs.Log.{writer}
use Rattle.verdict.specs.Inner.VersionEdges.{next_writer}

-- the entry for writer v and object x
abbrev pub at : List ℕ → ℕ → ℕ → ℕ
at table v x = get_or table (v * objects + x) 0

-- for each object that is marked, t now comes first, and before the one that came first until now; the rest is as it was
pub record PutBefore (table : List ℕ) (marks t : ℕ) (after : List ℕ) : Type 0 where
  pub size : length after ≡ length table
  pub entry : (v x : ℕ) → v ≤ transactions → x < objects
      → at after v x ≡ (provided marked marks x and v is 0 then t else provided marked marks x and v is t then at table 0 x else at table v x)

-- the store's entry and those of an object's writers have the writers of the next versions
pub record NextWriters (log table : List ℕ) : Type 0 where
  pub entry : (v x : ℕ) → v ≤ transactions → x < objects → (v is 0 or writer log x v) ≡ true → at table v x ≡ next_writer log x v
