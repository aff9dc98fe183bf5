-- A number in decimal, without leading zeros.
use Rattle.std.specs.Prelude.{List, [], ◌∷◌, ◌++◌, ℕ, zero, suc, ◌+◌, ◌/◌, ◌%◌}
use Prim.Native.Char.{code}
use Rattle.words.specs.Tests.{◌below◌, provided◌then◌else◌}

-- the byte of the digit d, which is 0..9
unfoldable pub digit : ℕ → ℕ
digit d = code "0" + d

-- the digits of n, at most so many: a digit alone, or those of n / 10 and then the last
unfoldable pub digits : ℕ → ℕ → List ℕ
digits zero n = []
digits (suc most) n = provided n below 10 then digit n ∷ [] else digits most (n / 10) ++ digit (n % 10) ∷ []

-- n in decimal, which has no more digits than n + 1
unfoldable pub decimal : ℕ → List ℕ
decimal n = digits (suc n) n
