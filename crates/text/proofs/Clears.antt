-- A run of numbers that is set to 0 from a place on.
use native.Mathlib.Omega.{arith}
use mathlib.Core.Path.{◌≡◌, refl, ap, ◌∙◌}
use mathlib.Core.List.{List, ◌++◌, append-nil}
use Prim.Native.Nat.{ℕ, ◌-◌, ◌≤◌}
use lib.ListN.{length, take, drop, replicate, length-drop, drop_of_length-le}
use borrow.Rule.Slice.PartMut.{put_mid}
use Rattle.words.specs.Lists.{zeros, entries}
use Rattle.text.specs.Inner.Put.{Leads}

-- the part from here on, set to 0
pub clears_part : (l v : List ℕ) (from k : ℕ) → k ≡ length l - from → v ≡ replicate k 0
    → put_mid from (length l - from) l v ≡ take from l ++ zeros (length l - from)
unfolding zeros
clears_part l v from k h e =
    let n : length (drop from l) ≤ length l - from = omega (arith, length-drop from l) in
    rw (e, h, drop_of_length-le (drop from l) n, append-nil) refl

-- a buffer that is cleared behind what leads on from its first entry
pub cleared_behind : (n next : ℕ) (w l run run' : List ℕ) → length run ≡ n → Leads w 0 l next run → run' ≡ take next run ++ zeros (length run - next) → run' ≡ entries n w
unfolding entries
cleared_behind n next w l run run' e p f =
    let g : next ≡ length w = omega (arith, p.reaches) in
    let i : length run - next ≡ n - length w = omega arith in
    f ∙ ap (λ (u : List ℕ). u ++ zeros (length run - next)) p.front ∙ ap (λ (m : ℕ). w ++ zeros m) i
