-- What the loop of `put_before` keeps.
use Rattle.verdict.proofs.NextWriters.{Putting}
use Rattle.verdict.proofs.tables.put_before.Given as goal

abbrev pub invariant-loop-x : goal.invariant-loop-x
invariant-loop-x l = Putting l.initial.table l.marks l.t l.x-iterator.0 l.table
