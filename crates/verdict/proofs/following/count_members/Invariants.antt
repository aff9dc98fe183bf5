-- What the loop of `count_members` keeps.
use Rattle.verdict.proofs.HandedIn.{Front}
use Rattle.verdict.proofs.following.count_members.Given as goal

abbrev pub invariant-loop-i : goal.invariant-loop-i
invariant-loop-i l = Front l.order l.i
