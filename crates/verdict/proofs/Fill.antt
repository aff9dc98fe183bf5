-- A buffer filled with zeros to its end.
use mathlib.Core.Path.{◌≡◌}
use mathlib.Core.List.{List, ◌++◌, append-nil}
use Prim.Native.Nat.{ℕ}
use lib.ListN.{length, drop, replicate}
use lib.Seq.{drop-length}
use Rattle.words.specs.Lists.{zeros}

pub filled : (s : List ℕ) (n : ℕ) → n ≡ length s → replicate n 0 ++ drop n s ≡ zeros (length s)
unfolding zeros
filled s n e = rw (e, drop-length s, append-nil)
