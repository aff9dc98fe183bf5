-- `mark_commit` meets its contract.
use mathlib.Core.Path.{◌≡◌}
use Prim.Native.Nat.{◌<◌}
use native.Mathlib.Omega.{arith}
use Rattle.verdict.specs.Log.{steps, kind, tx}
use Rattle.verdict.proofs.WellFormed.{tx_within, ranges}
use Rattle.plan.specs.Inner.Marks.{table}
use Rattle.plan.proofs.WhoCommitted.{commit_noted, other_noted}
use Rattle.plan.proofs.committed.mark_commit.Lts
use Rattle.plan.proofs.committed.mark_commit.Tie as tie
use Rattle.plan.proofs.committed.mark_commit.Reads
use Rattle.plan.proofs.committed.mark_commit.Goals as goal

-- places on the way, by the names that the toolchain gives them
abbrev After-from-t : Type 0
After-from-t = Lts.After-from tie.the-claims Reads.Pre Reads.Post

-- the transaction of the step
is_tx : (c : After-from-t) → c.from-t.result ≡ tx c.args.log.now c.args.i
unfolding tx
is_tx c = c.from-t.ensures

within : (c : After-from-t) → c.from-t.result < table
unfolding steps
within c =
    let inside : c.args.i < steps c.args.log.now = omega (arith, c.requires.1) in
    omega (arith, is_tx c, (tx_within c.args.log.now c.args.i (ranges c.args.log.now c.requires.0 c.args.i inside)).1)

pub returns-then-log-i-ne-COMMIT : goal.returns-then-log-i-ne-COMMIT
unfolding kind
returns-then-log-i-ne-COMMIT c = other_noted _ _ _ c.requires.2 c.if-log-i-ne-COMMIT.true

pub bounds-marks-t : goal.bounds-marks-t
bounds-marks-t c = within c.before.before

pub returns : goal.returns
unfolding kind
returns c = commit_noted _ _ _ c.requires.2 c.if-log-i-ne-COMMIT.false c.from-t.result (is_tx c.before.before) (within c.before.before)
