-- What the loop of `least_open` keeps.
use mathlib.Core.Path.{◌≡◌}
use Prim.Native.Nat.{◌≤◌}
use lib.ListN.{length}
use Rattle.live.specs.Inner.Forgetting.{LeastOpen}
use Rattle.live.proofs.room.least_open.Given as goal

abbrev pub invariant-loop-i : goal.invariant-loop-i
invariant-loop-i l = (l.n ≤ 128) × (length l.opened ≡ 256) × LeastOpen l.opened l.i l.least
