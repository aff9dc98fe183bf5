-- What the loop of `last_used` keeps.
use mathlib.Core.Path.{◌≡◌}
use Prim.Native.Nat.{ℕ, ◌≤◌}
use lib.ListN.{length}
use Rattle.live.specs.Inner.Table.{name_at}
use Rattle.live.proofs.room.last_used.Given as goal

abbrev pub invariant-loop-p : goal.invariant-loop-p
invariant-loop-p l =
    (l.n ≤ 128) × (length l.rows ≡ 8643) × ((q : ℕ) → l.p ≤ q → q ≤ l.n → name_at l.rows q ≡ 0)
