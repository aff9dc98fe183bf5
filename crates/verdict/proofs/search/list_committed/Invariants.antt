-- What the loop of `list_committed` keeps.
use Rattle.verdict.proofs.Roster.{Listed}
use Rattle.verdict.proofs.search.list_committed.Given as goal

abbrev pub invariant-loop-t : goal.invariant-loop-t
invariant-loop-t l = Listed l.log l.t l.count l.list
