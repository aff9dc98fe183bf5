-- A run of words as marks of the numbers below 64 times its length.
use Rattle.std.specs.Prelude.{Bool, List, ℕ, ◌/◌, ◌%◌, get_or, set}
use Rattle.bits.specs.Word.{marked, less}

-- k is marked in the run
unfoldable pub bit : List ℕ → ℕ → Bool
bit words k = marked (get_or words (k / 64) 0) (k % 64)

-- the run with k not marked
unfoldable pub without_bit : List ℕ → ℕ → List ℕ
without_bit words k = set words (k / 64) (less (get_or words (k / 64) 0) (k % 64))
