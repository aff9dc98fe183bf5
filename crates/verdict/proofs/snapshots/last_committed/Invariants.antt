-- What the loop of `last_committed` keeps.
use Rattle.std.proofs.Common.{◌≡◌}
use Rattle.verdict.specs.Snapshot.{last_committed}
use Rattle.verdict.proofs.snapshots.last_committed.Given as goal

abbrev pub invariant-loop-j : goal.invariant-loop-j
invariant-loop-j l = last_committed l.log l.b l.x ≡ last_committed l.log l.j l.x
