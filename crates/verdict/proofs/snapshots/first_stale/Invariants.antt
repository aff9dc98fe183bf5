-- What the loop of `first_stale` keeps.
use mathlib.Core.Path.{◌≡◌}
use mathlib.Core.Bool.{false}
use Rattle.words.specs.Tests.{some}
use Rattle.verdict.specs.Inner.StaleReads.{stale_read}
use Rattle.verdict.proofs.snapshots.first_stale.Given as goal

abbrev pub invariant-loop-i : goal.invariant-loop-i
invariant-loop-i l = some l.i (stale_read l.log) ≡ false
