-- What the loop of `free_place` keeps.
use mathlib.Core.Path.{◌≡◌}
use Prim.Native.Nat.{ℕ, ◌≤◌, ◌<◌}
use lib.ListN.{length}
use Rattle.live.specs.Inner.Table.{name_at}
use Rattle.live.proofs.places.free_place.Given as goal

abbrev pub invariant-loop-p : goal.invariant-loop-p
invariant-loop-p l = (l.n ≤ 128) × (length l.rows ≡ 8643) × ((q : ℕ) → 1 ≤ q → q < l.p → 1 ≤ name_at l.rows q)
