-- `is_stale` meets its contract.
use mathlib.Core.Path.{◌≡◌, sym, ap, ◌∙◌}
use mathlib.Core.Bool.{true}
use mathlib.Core.Logic.{inl}
use Prim.Native.Nat.{◌≤◌, ◌<◌}
use native.Mathlib.Omega.{arith}
use Rattle.words.specs.Tests.{◌upto◌}
use Rattle.verdict.specs.Limits.{transactions, objects}
use Rattle.verdict.specs.Log.{steps, kind, tx, obj, src, commit_step}
use Rattle.verdict.specs.Clean.{judged_other}
use Rattle.verdict.specs.Snapshot.{snapshot_step}
use Rattle.verdict.specs.Inner.VersionEdges.{next_writer}
use Rattle.verdict.proofs.WellFormed.{Well, well_formed}
use Rattle.verdict.proofs.JudgedReads.{other_kind, own_source, reader_fails, judged_read}
use Rattle.verdict.proofs.VersionGraph.{next_range}
use Rattle.verdict.proofs.SnapshotLaws.{begin_at, commit_at}
use Rattle.verdict.proofs.NextWriters.{next_read}
use Rattle.verdict.proofs.StaleReads.{not_stale, has_committed, not_committed, next_committed, store_read, source_read}
use Rattle.verdict.proofs.snapshots.is_stale.Lts
use Rattle.verdict.proofs.snapshots.is_stale.Tie as tie
use Rattle.verdict.proofs.snapshots.is_stale.Reads
use Rattle.verdict.proofs.snapshots.is_stale.Goals as goal

-- places on the way, by the names that the toolchain gives them
abbrev After-next_of : Type 0
After-next_of = Lts.After-next_of tie.the-claims Reads.Pre Reads.Post

abbrev After-step_of : Type 0
After-step_of = Lts.After-step_of tie.the-claims Reads.Pre Reads.Post

abbrev After-step_of-2 : Type 0
After-step_of-2 = Lts.After-step_of3 tie.the-claims Reads.Pre Reads.Post

abbrev After-step_of-b : Type 0
After-step_of-b = Lts.After-step_of2 tie.the-claims Reads.Pre Reads.Post

abbrev Else-log-step_of : Type 0
Else-log-step_of = Lts.Else3 tie.the-claims Reads.Pre Reads.Post

abbrev Else-step-ne-READ : Type 0
Else-step-ne-READ = Lts.Else1 tie.the-claims Reads.Pre Reads.Post

-- what is known of the log
known : (c : Else-step-ne-READ) → Well transactions c.args.log.now
known c = well_formed _ c.requires.0

in_log : (c : Else-step-ne-READ) → c.args.i < steps c.args.log.now
unfolding steps
in_log c = omega (arith, c.requires.4)

is_read : (c : Else-step-ne-READ) → kind c.args.log.now c.args.i ≡ 2
is_read c = sym c.step_at-step.ensures.kind_is ∙ c.if-step-ne-READ.false

tx_in : (c : Else-step-ne-READ) → c.step_at-step.result.tx ≤ transactions
tx_in c = rw c.step_at-step.ensures.tx_is ((known c).range _ (in_log c)).1

src_in : (c : Else-step-ne-READ) → c.step_at-step.result.src ≤ transactions
src_in c = rw c.step_at-step.ensures.src_is ((known c).sources _ (in_log c) (is_read c))

obj_in : (c : Else-step-ne-READ) → c.step_at-step.result.obj < objects
obj_in c = rw c.step_at-step.ensures.obj_is ((known c).object _ (in_log c) (inl (is_read c)))

-- where its transaction commits
commit_is : (c : After-step_of) → let a = c.args in c.step_of.result ≡ commit_step a.log.now (tx a.log.now a.i)
commit_is c =
    c.step_of.ensures ∙ commit_at _ _ (tx_in c.before.before.before) c.requires.2 ∙ ap (commit_step c.args.log.now) c.step_at-step.ensures.tx_is

is_judged : (c : Else-log-step_of) → let a = c.args in judged_other a.log.now a.i ≡ true
unfolding steps
is_judged c =
    let step = c.step_at-step.ensures in
    judged_read _ _ (is_read c.before.before.before.before) (λ e. c.if-step.false (step.src_is ∙ e ∙ sym step.tx_is)) (has_committed _ _ (omega (arith, c.if-log-step_of.false, commit_is c.before)))

-- where it begins
begin_is : (c : After-step_of-b) → let a = c.args in c.step_of-b.result ≡ snapshot_step a.log.now (tx a.log.now a.i)
begin_is c =
    c.step_of-b.ensures ∙ begin_at _ _ (tx_in c.before.before.before.before.before) c.requires.1 ∙ ap (snapshot_step c.args.log.now) c.step_at-step.ensures.tx_is

-- the writer of the next version, and where it commits
next_is : (c : After-next_of) → let a = c.args in c.next_of.result ≡ next_writer a.log.now (obj a.log.now a.i) (src a.log.now a.i)
next_is c =
    let step = c.step_at-step.ensures in
    next_read (known c.before.before.before.before.before.before) c.requires.3 _ (in_log c.before.before.before.before.before.before) (is_read c.before.before.before.before.before.before) step.src_is step.obj_is c.next_of.ensures

next_in : (c : After-next_of) → c.next_of.result ≤ transactions
next_in c = rw (next_is c) (next_range _ (known c.before.before.before.before.before.before) _ _)

next_commit_is : (c : After-step_of-2)
    → let a = c.args in c.step_of-2.result ≡ commit_step a.log.now (next_writer a.log.now (obj a.log.now a.i) (src a.log.now a.i))
next_commit_is c =
    c.step_of-2.ensures ∙ commit_at _ _ (next_in c.before) c.requires.2 ∙ ap (commit_step c.args.log.now) (next_is c.before)

pub returns-then-step-ne-READ : goal.returns-then-step-ne-READ
returns-then-step-ne-READ c = sym (not_stale _ _ (other_kind _ _ (λ e. c.if-step-ne-READ.true (c.step_at-step.ensures.kind_is ∙ e))))

pub returns-then-step : goal.returns-then-step
returns-then-step c =
    let step = c.step_at-step.ensures in
    sym (not_stale _ _ (own_source _ _ (sym step.src_is ∙ c.if-step.true ∙ step.tx_is)))

pub step_of-requires : goal.step_of-requires
step_of-requires c = tx_in c.before.before.before

pub returns-then-log-step_of : goal.returns-then-log-step_of
unfolding steps
returns-then-log-step_of c = sym (not_stale _ _ (reader_fails _ _ (not_committed _ _ (omega (arith, c.if-log-step_of.true, commit_is c.before.before)))))

pub step_of-b-requires : goal.step_of-b-requires
step_of-b-requires c = tx_in c.before.before.before.before.before

pub next_of-requires : goal.next_of-requires
next_of-requires c = (src_in c.before.before.before.before.before.before, obj_in c.before.before.before.before.before.before)

pub step_of-requires-2 : goal.step_of-requires-2
step_of-requires-2 c = next_in c.before

pub returns-then-step_of-b : goal.returns-then-step_of-b
returns-then-step_of-b c =
    sym (next_committed _ (known c.before.before.before.before.before.before.before.before.before) _ (is_judged c.before.before.before.before.before) (begin_is c.before.before.before.before) (next_commit_is c.before.before) c.if-step_of-b.true)

pub returns-then-step-eq0 : goal.returns-then-step-eq0
returns-then-step-eq0 c =
    let step = c.step_at-step.ensures in
    sym (store_read _ (known c.before.before.before.before.before.before.before.before.before.before.before) _ (is_judged c.before.before.before.before.before.before.before) (begin_is c.before.before.before.before.before.before) (next_commit_is c.before.before.before.before) c.if-step_of-b.false (sym step.src_is ∙ c.if-step-eq0.true))

pub step_of-requires-3 : goal.step_of-requires-3
step_of-requires-3 c = src_in c.before.before.before.before.before.before.before.before.before.before.before

pub returns : goal.returns
unfolding ◌upto◌
returns c =
    let step = c.step_at-step.ensures in
    source_read _ (known c.before.before.before.before.before.before.before.before.before.before.before.before) _ (is_judged c.before.before.before.before.before.before.before.before) (begin_is c.before.before.before.before.before.before.before) (next_commit_is c.before.before.before.before.before)
    (c.step_of-3.ensures ∙ commit_at _ _ (src_in c.before.before.before.before.before.before.before.before.before.before.before.before) c.requires.2 ∙ ap (commit_step c.args.log.now) step.src_is) (in_log c.before.before.before.before.before.before.before.before.before.before.before.before) c.if-step_of-b.false (λ e. c.if-step-eq0.false (step.src_is ∙ e))
