-- What the loop of `first_own` keeps.
use mathlib.Core.Path.{◌≡◌}
use mathlib.Core.Bool.{false}
use Prim.Native.Nat.{suc}
use lib.ListN.{length}
use Rattle.words.specs.Tests.{some}
use Rattle.verdict.specs.Limits.{transactions}
use Rattle.verdict.specs.Log.{steps}
use Rattle.verdict.specs.Clean.{own_fault}
use Rattle.verdict.specs.Inner.WriteTable.{Versions}
use Rattle.verdict.proofs.own_reads.first_own.Given as goal

abbrev pub invariant-loop-i : goal.invariant-loop-i
invariant-loop-i l = (l.n ≡ steps l.log) × (some l.i (own_fault l.log) ≡ false) × Versions l.log l.i l.versions × (length l.versions ≡ suc transactions)
