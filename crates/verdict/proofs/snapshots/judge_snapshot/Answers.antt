-- `judge_snapshot` meets its contract.
use mathlib.Core.Path.{sym, ◌∙◌}
use native.Mathlib.Omega.{arith}
use Rattle.words.specs.Tests.{◌upto◌}
use Rattle.words.proofs.Truth.{lowest_bound}
use Rattle.verdict.specs.Log.{steps}
use Rattle.verdict.specs.Snapshot.{wrong_read}
use Rattle.verdict.proofs.SnapshotLaws.{read_first, write_first, all_right}
use Rattle.verdict.proofs.OwnReads.{first_wrong, after_own}
use Rattle.verdict.proofs.snapshots.judge_snapshot.Goals as goal

pub first_clash-requires : goal.first_clash-requires
first_clash-requires c =
    let q = c.requires in
    let log = c.args.log.now in
    let wrong = c.lower-k.ensures ∙ first_wrong _ q.5 c.first_stale-stale.ensures in
    (q.0, q.3, q.1, q.2, omega (arith, wrong, lowest_bound {n = steps log} (wrong_read log)))

pub returns-in-Some : goal.returns-in-Some
returns-in-Some c = sym (write_first _ _ (c.lower-k.ensures ∙ first_wrong _ c.requires.5 c.first_stale-stale.ensures) _ c.in-Some.ensures)

pub wanted-requires : goal.wanted-requires
unfolding steps ◌upto◌
wanted-requires c =
    let q = c.requires in
    (q.0, q.3, q.1, omega arith, after_own _ q.5 c.first_stale-stale.ensures _ c.lower-k.ensures c.if-k-n.true)

pub returns-then-k-n : goal.returns-then-k-n
unfolding steps
returns-then-k-n c =
    sym (read_first _ _ (c.lower-k.ensures ∙ first_wrong _ c.requires.5 c.first_stale-stale.ensures) c.in_default.ensures c.if-k-n.true c.wanted.ensures)

pub returns : goal.returns
unfolding steps
returns c =
    sym (all_right _ _ (c.lower-k.ensures ∙ first_wrong _ c.requires.5 c.first_stale-stale.ensures) c.in_default.ensures c.if-k-n.false)
