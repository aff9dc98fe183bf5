-- The line that has begun: what is kept of the bytes that have come of it.
use Rattle.std.specs.Prelude.{◌≡◌, List, ℕ, ◌≤◌, ◌<◌, length, take}
use Rattle.text.specs.OneLine.{longest_line}

-- all of them, and how many they are; or only that they are more than a line in form has
pub data Keeps (came bytes : List ℕ) (count : ℕ) : Type 0 where
  all_kept : count ≤ longest_line → length came ≡ count → take count bytes ≡ came → Keeps came bytes count
  too_many : longest_line < count → longest_line < length came → Keeps came bytes count
