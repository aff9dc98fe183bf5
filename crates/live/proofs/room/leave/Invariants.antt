-- What the loop of `leave` keeps.
use mathlib.Core.Path.{◌≡◌}
use Prim.Native.Nat.{◌≤◌}
use lib.ListN.{length}
use Rattle.live.specs.Inner.Forgetting.{Leaves}
use Rattle.live.proofs.room.leave.Given as goal

abbrev pub invariant-loop-q : goal.invariant-loop-q
invariant-loop-q l =
    (l.n ≤ 128) × (length l.initial.edges ≡ 256) × (1 ≤ l.p) × (l.p ≤ 128) × Leaves l.initial.edges l.p l.q l.edges
