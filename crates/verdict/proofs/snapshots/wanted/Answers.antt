-- `wanted` meets its contract.
use mathlib.Core.Path.{◌≡◌, sym, ◌∙◌}
use Prim.Native.Nat.{◌≤◌, ◌<◌}
use native.Mathlib.Omega.{arith}
use Rattle.words.specs.Tests.{lowest}
use Rattle.words.proofs.Truth.{lowest_bound}
use Rattle.verdict.specs.Limits.{transactions, objects}
use Rattle.verdict.specs.Log.{steps}
use Rattle.verdict.specs.Inner.Checking.{InRange}
use Rattle.verdict.specs.Inner.Marks.{does}
use Rattle.verdict.proofs.WellFormed.{ranges, tx_within, object_within}
use Rattle.verdict.proofs.SnapshotLaws.{wanted_own, wanted_there}
use Rattle.verdict.proofs.snapshots.wanted.Lts
use Rattle.verdict.proofs.snapshots.wanted.Tie as tie
use Rattle.verdict.proofs.snapshots.wanted.Reads
use Rattle.verdict.proofs.snapshots.wanted.Goals as goal

-- places on the way, by the names that the toolchain gives them
abbrev After-step_at-step : Type 0
After-step_at-step = Lts.After-step_at tie.the-claims Reads.Pre Reads.Post

abbrev After-step_of : Type 0
After-step_of = Lts.After-step_of tie.the-claims Reads.Pre Reads.Post

-- its numbers are within the limits
within : (c : After-step_at-step) → InRange c.args.log.now c.args.i
unfolding steps
within c = ranges _ c.requires.0 _ (omega (arith, c.requires.3))

tx_in : (c : After-step_at-step) → c.step_at-step.result.tx ≤ transactions
tx_in c = rw c.step_at-step.ensures.tx_is (tx_within _ _ (within c)).1

obj_in : (c : After-step_at-step) → c.step_at-step.result.obj < objects
obj_in c = rw c.step_at-step.ensures.obj_is (object_within _ _ (within c))

-- where its transaction begins
begin_is : (c : After-step_of) → let log = c.args.log.now in c.step_of.result ≡ lowest (steps log) (does log 1 c.step_at-step.result.tx)
begin_is c = c.step_of.ensures ∙ c.requires.2.entry _ (tx_in c.before.before)

pub returns-then-own : goal.returns-then-own
returns-then-own c = wanted_own _ _ c.step_at-step.ensures (sym c.requires.4 ∙ c.if-own.true)

pub step_of-requires : goal.step_of-requires
step_of-requires c = tx_in c.before.before

pub last_committed-requires : goal.last_committed-requires
unfolding steps
last_committed-requires c =
    let log = c.args.log.now in
    let known = c.requires in
    (known.0, known.1, omega (arith, begin_is c.before, lowest_bound {n = steps log} (does log 1 c.step_at-step.result.tx)), obj_in c.before.before.before)

pub returns : goal.returns
returns c =
    wanted_there _ _ c.step_at-step.ensures (sym c.requires.4 ∙ c.if-own.false) (begin_is c.before.before) c.last_committed.ensures
