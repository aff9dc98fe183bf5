-- What the loops of `first_clash` keep.
use Rattle.std.specs.Prelude.{None}
use Rattle.std.proofs.Common.{◌≡◌, false}
use Rattle.words.specs.Tests.{some}
use Rattle.bits.specs.Word.{marked}
use Rattle.verdict.specs.Limits.{transactions}
use Rattle.verdict.specs.Snapshot.{clash, wrong_commit}
use Rattle.verdict.specs.Inner.Clashes.{LastCommits}
use Rattle.verdict.proofs.snapshots.first_clash.Given as goal

abbrev pub invariant-loop-x : goal.invariant-loop-x
invariant-loop-x l = (l.found ≡ None) × (some l.x (marked l.both) ≡ false)

abbrev pub invariant-loop-p : goal.invariant-loop-p
invariant-loop-p l = (l.found ≡ None) × (some l.p (clash l.log l.j) ≡ false)

abbrev pub invariant-search : goal.invariant-search
invariant-search l = (l.found ≡ None) × LastCommits l.log l.j l.last × (some l.j (wrong_commit transactions l.log) ≡ false)
