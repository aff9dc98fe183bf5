-- What the private functions that note a step promise.
use Rattle.std.specs.Prelude.{◌≡◌, true, false, List, ℕ, ◌+◌, ◌-◌, ◌*◌, ◌<◌, length, set}
use Rattle.words.specs.Tests.{◌is◌, provided◌then◌else◌}
use Rattle.bits.specs.Word.{marked, more}
use Rattle.live.specs.Inner.Table.{cell, sees_at, writes_at, reads_at}

-- the rows after a read of place p from s, where another may have been wanted
unfoldable pub noted_status : List ℕ → ℕ → ℕ → ℕ → List ℕ
noted_status rows p s wanted = provided s is wanted then rows else set rows (p * 67 + 1) 1

-- a read of x after an own write, and one before any
pub record NotesRead (rows marks : List ℕ) (p t x s : ℕ) (rows' marks' : List ℕ) : Type 0 where
  pub after_own : marked (writes_at marks p) x ≡ true → (rows' ≡ noted_status rows p s t) × (marks' ≡ marks)
  pub before_own : marked (writes_at marks p) x ≡ false → (rows' ≡ noted_status rows p s (sees_at rows p x)) × (marks' ≡ set marks ((p - 1) * 2 + 1) (more (reads_at marks p) x))

-- t becomes the last writer of the objects that are marked
pub record PutsLast (rows : List ℕ) (marks t : ℕ) (rows' : List ℕ) : Type 0 where
  pub size : length rows' ≡ length rows
  pub last : (x : ℕ) → x < 64 → sees_at rows' 0 x ≡ (provided marked marks x then t else sees_at rows 0 x)
  pub others : (q c : ℕ) → (q ≡ 0 → c < 66 → ⊥) → c < 67 → cell rows' q c ≡ cell rows q c
