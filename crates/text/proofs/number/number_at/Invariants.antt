-- What the loop of `number_at` keeps.
use mathlib.Core.Path.{◌≡◌}
use mathlib.Core.List.{◌++◌}
use Prim.Native.Nat.{◌≤◌}
use lib.ListN.{drop}
use Rattle.text.specs.Decimal.{decimal}
use Rattle.text.specs.Line.{largest}
use Rattle.text.proofs.number.number_at.Given as goal

abbrev pub invariant-loop-i : goal.invariant-loop-i
invariant-loop-i l = (l.value ≤ largest) × (drop l.at l.text ≡ decimal l.value ++ drop l.i l.text)
