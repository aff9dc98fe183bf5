-- What the loop of `note_last` keeps.
use Rattle.bits.proofs.Putting.{MarksPut}
use Rattle.verdict.proofs.search.note_last.Given as goal

abbrev pub invariant-loop-x : goal.invariant-loop-x
invariant-loop-x l = MarksPut l.initial.last l.initial.x-iterator.0 l.writer l.x-iterator.0 l.last
