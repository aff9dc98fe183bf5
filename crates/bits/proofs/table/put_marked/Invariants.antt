-- What the loop of `put_marked` keeps.
use Rattle.bits.proofs.Putting.{MarksPut}
use Rattle.bits.proofs.table.put_marked.Given as goal

abbrev pub invariant-loop-x : goal.invariant-loop-x
invariant-loop-x l = MarksPut l.initial.table l.marks l.v l.x-iterator.0 l.table
