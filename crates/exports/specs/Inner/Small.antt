-- What the packing functions ask of an answer, so that no sum wraps.
use Rattle.std.specs.Prelude.{ℕ, ◌<◌}

-- a number of 64 bits
abbrev pub Small : ℕ → Type 0
Small n = n < 18446744073709551616
