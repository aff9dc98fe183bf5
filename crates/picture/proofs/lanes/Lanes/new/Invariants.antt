-- No more lanes are given than transactions are gone over.
use Rattle.std.proofs.Common.{◌+◌, ◌≤◌}
use Rattle.picture.proofs.lanes.Lanes.new.Given as goal

abbrev pub invariant-loop-tx : goal.invariant-loop-tx
invariant-loop-tx l = l.count + 1 ≤ l.tx
