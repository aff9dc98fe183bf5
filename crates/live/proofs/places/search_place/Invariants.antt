-- What the loop of `search_place` keeps.
use mathlib.Core.Path.{◌≡◌}
use Prim.Native.Nat.{ℕ, ◌≤◌}
use lib.ListN.{length}
use Rattle.live.specs.Inner.Table.{open_at}
use Rattle.live.proofs.places.search_place.Given as goal

abbrev pub invariant-loop-p : goal.invariant-loop-p
invariant-loop-p l =
    (l.n ≤ 128) × (length l.opened ≡ 256) × ((q : ℕ) → l.p ≤ q → q ≤ l.n → open_at l.opened q ≡ l.t → ⊥)
