-- `snapshot_learned` meets its contract.
use mathlib.Core.Path.{sym}
use native.Mathlib.Omega.{arith}
use Rattle.verdict.specs.Log.{steps}
use Rattle.verdict.proofs.SnapshotLaws.{none_wrong}
use Rattle.verdict.proofs.snapshots.snapshot_learned.Goals as goal

pub returns-then-log-eq0 : goal.returns-then-log-eq0
unfolding steps
returns-then-log-eq0 c = sym (none_wrong _ (omega arith))
