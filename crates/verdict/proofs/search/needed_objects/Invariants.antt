-- What the loop of `needed_objects` keeps.
use mathlib.Core.Path.{◌≡◌}
use Prim.Native.Nat.{◌*◌, ◌≤◌}
use Rattle.verdict.specs.Limits.{transactions, objects}
use Rattle.verdict.proofs.NeededMarks.{NeededBelow}
use Rattle.verdict.proofs.search.needed_objects.Given as goal

abbrev pub invariant-loop-x : goal.invariant-loop-x
invariant-loop-x l = (l.row ≡ l.t * objects) × (l.t ≤ transactions) × NeededBelow l.need l.t l.x l.marks
