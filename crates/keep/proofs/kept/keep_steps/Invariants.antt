-- What the loop of `keep_steps` keeps: what is kept of the first i steps is copied.
use mathlib.Core.Path.{◌≡◌}
use Prim.Native.Nat.{◌*◌, ◌≤◌}
use lib.ListN.{length, take}
use Rattle.keep.specs.Kept.{kept as Kept-kept}
use Rattle.keep.proofs.kept.keep_steps.Given as goal

abbrev pub invariant-loop-i : goal.invariant-loop-i
invariant-loop-i l =
    (l.n ≤ 4 * l.i) × (length l.kept ≡ length l.initial.kept) × (take l.n l.kept ≡ Kept-kept l.marks l.i l.log)
