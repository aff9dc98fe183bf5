-- The places in use: those of the open transactions, and of the committed ones that are kept. An aborted one is forgotten at once.
use Rattle.std.specs.Prelude.{Bool, List, ℕ, suc}
use Rattle.words.specs.Tests.{◌upto◌, ◌or◌, count}
use Rattle.live.specs.SoFar.{is_open}
use Rattle.live.specs.Forgotten.{kept}

-- how many places there are
abbrev pub places : ℕ
places = 128

-- how many places are in use after forgetting until nothing more can go; transactions are at most `most`
unfoldable pub in_use : ℕ → List ℕ → ℕ
in_use most log = count (suc most) (λ t. is_open log t or kept most log t)

-- no place of so many is free
unfoldable pub full : ℕ → ℕ → List ℕ → Bool
full most room log = room upto in_use most log
