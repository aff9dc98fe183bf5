-- A table of 64 entries with a value put in at each mark.
use Rattle.std.specs.Prelude.{◌≡◌, List, ℕ, ◌<◌, length, get_or}
use Rattle.words.specs.Tests.{provided◌then◌else◌}
use Rattle.bits.specs.Word.{marked}

pub record Puts (table : List ℕ) (marks v : ℕ) (after : List ℕ) : Type 0 where
  pub size : length after ≡ length table
  pub each : length table ≡ 64 → (x : ℕ) → x < 64 → get_or after x 0 ≡ (provided marked marks x then v else get_or table x 0)
