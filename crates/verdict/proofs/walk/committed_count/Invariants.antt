-- What the loop of `committed_count` keeps.
use mathlib.Core.Path.{◌≡◌}
use Prim.Native.Nat.{◌≤◌}
use Rattle.words.specs.Tests.{◌is◌, count}
use Rattle.verdict.specs.Log.{kind}
use Rattle.verdict.proofs.walk.committed_count.Given as goal

abbrev pub invariant-loop-i : goal.invariant-loop-i
invariant-loop-i l = (l.total ≤ l.i) × (l.total ≡ count l.i (λ j. kind l.log j is 4))
