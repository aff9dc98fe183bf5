-- What the loop of `put_last` keeps.
use mathlib.Core.Path.{◌≡◌}
use lib.ListN.{length}
use Rattle.live.proofs.Notes.{Putting}
use Rattle.live.proofs.noting.put_last.Given as goal

abbrev pub invariant-loop-x : goal.invariant-loop-x
invariant-loop-x l = (length l.initial.rows ≡ 8643) × (length l.rows ≡ 8643) × Putting l.initial.rows l.marks l.t l.x-iterator.0 l.rows
