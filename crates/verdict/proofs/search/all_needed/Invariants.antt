-- What the loop of `all_needed` keeps.
use mathlib.Core.Path.{◌≡◌}
use Prim.Native.Nat.{ℕ, ◌≤◌, ◌<◌}
use lib.ListN.{length, get_or}
use Rattle.verdict.specs.Limits.{most_searched}
use Rattle.verdict.specs.Inner.Placing.{NeededOf}
use Rattle.verdict.proofs.search.all_needed.Given as goal

abbrev pub invariant-loop-i : goal.invariant-loop-i
invariant-loop-i l =
    (l.n ≤ most_searched) × (length l.asks ≡ most_searched) × ((k : ℕ) → k < l.i → NeededOf l.need (get_or l.ones k 0) (get_or l.asks k 0))
