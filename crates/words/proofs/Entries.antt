-- A list put first into zeros: it stands as an array holds it.
use mathlib.Core.Path.{◌≡◌, refl, ap}
use mathlib.Core.List.{List, ◌++◌}
use Prim.Native.Nat.{ℕ, zero, suc, ◌-◌}
use native.Mathlib.Omega.{arith}
use lib.ListN.{length, drop}
use Rattle.words.specs.Lists.{zeros, entries}

drop_zeros : (k n : ℕ) → drop k (zeros n) ≡ zeros (n - k)
unfolding zeros
drop_zeros zero n = let e : n - 0 ≡ n = omega arith in rw e refl
drop_zeros (suc k) zero = let e : 0 - suc k ≡ 0 = omega arith in rw e refl
drop_zeros (suc k) (suc n) = let e : suc n - suc k ≡ n - k = omega arith in rw e (drop_zeros k n)

pub into_zeros : (n : ℕ) (w : List ℕ) → w ++ drop (length w) (zeros n) ≡ entries n w
unfolding entries
into_zeros n w = ap (λ (z : List ℕ). w ++ z) (drop_zeros (length w) n)
