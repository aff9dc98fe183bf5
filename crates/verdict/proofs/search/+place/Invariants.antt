-- What the loop of `place` keeps, and why the calls end.
use mathlib.Core.Path.{◌≡◌}
use Prim.Native.Nat.{◌-◌}
use lib.ListN.{length}
use Rattle.verdict.specs.Limits.{most_searched}
use Rattle.verdict.specs.Inner.Placing.{placed_of}
use Rattle.verdict.proofs.Loosely.{Tried}
use Rattle.verdict.proofs.search.+place.Given as goal

-- fewer are left at each call
abbrev pub decreases-place : goal.decreases-place
decreases-place l = l.n - l.run.at

abbrev pub invariant-loop-i : goal.invariant-loop-i
invariant-loop-i l =
    Tried l.log (placed_of l.run l.placed) l.ones l.run.free l.i-iterator.0 × (length l.order ≡ most_searched)
