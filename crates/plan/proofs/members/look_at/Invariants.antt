-- What the loop of `look_at` keeps.
use Rattle.plan.proofs.Named.{Named}
use Rattle.plan.proofs.members.look_at.Given as goal

abbrev pub invariant-loop-i : goal.invariant-loop-i
invariant-loop-i l = Named l.who l.proposal l.i l.marks
