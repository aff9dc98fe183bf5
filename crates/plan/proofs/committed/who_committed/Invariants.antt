-- What the loop of `who_committed` keeps.
use Rattle.plan.specs.Inner.Marks.{Until}
use Rattle.plan.proofs.committed.who_committed.Given as goal

abbrev pub invariant-loop-i : goal.invariant-loop-i
invariant-loop-i l = Until l.log l.i l.marks
