-- What the loop of `conflict_reasons` keeps.
use Rattle.verdict.specs.Inner.Reasons.{Best}
use Rattle.verdict.specs.Inner.ConflictEdges.{Touched}
use Rattle.verdict.specs.Inner.ConflictReasons.{conflict_until}
use Rattle.verdict.proofs.conflict_reasons.conflict_reasons.Given as goal

abbrev pub invariant-loop-j : goal.invariant-loop-j
invariant-loop-j l = Best l.members (conflict_until l.log l.j) l.best × Touched l.log l.j l.touched
