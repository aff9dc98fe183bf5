-- The number is within the limit.
use Rattle.std.proofs.Common.{◌≤◌}
use Rattle.input.proofs.named.number_of.Given as goal

abbrev pub invariant-loop-digit : goal.invariant-loop-digit
invariant-loop-digit l = l.number ≤ l.limit
