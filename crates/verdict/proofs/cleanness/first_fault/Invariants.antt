-- What the loop of `first_fault` keeps: the marks and the fault are those of the steps from i on.
use Rattle.std.proofs.Common.{◌≡◌}
use Rattle.words.specs.Tests.{◌upto◌, ◌and◌, lowest}
use Rattle.verdict.specs.Log.{steps}
use Rattle.verdict.specs.Clean.{source_fault}
use Rattle.verdict.specs.Inner.WriteTable.{WritesFrom}
use Rattle.verdict.proofs.cleanness.first_fault.Given as goal

abbrev pub invariant-loop-i : goal.invariant-loop-i
invariant-loop-i l = WritesFrom l.log l.i l.later × (l.fault ≡ lowest (steps l.log) (λ j. l.i upto j and source_fault l.log j))
