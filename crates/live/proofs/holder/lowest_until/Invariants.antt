-- What the loop of `lowest_until` keeps.
use mathlib.Core.Path.{◌≡◌}
use Prim.Native.Nat.{ℕ, ◌≤◌, ◌<◌}
use lib.ListN.{length}
use Rattle.live.specs.Inner.Table.{status_at, until_at}
use Rattle.live.proofs.holder.lowest_until.Given as goal

abbrev pub invariant-loop-i : goal.invariant-loop-i
invariant-loop-i l =
    (l.n ≤ 128) × (length l.rows ≡ 8643) × ((q : ℕ) → 1 ≤ q → q < l.i → status_at l.rows q ≡ 2 → l.low ≤ until_at l.rows q)
