-- `clashes` meets its contract.
use mathlib.Core.Path.{sym}
use Prim.Native.Nat.{◌≤◌, ◌<◌}
use native.Mathlib.Omega.{arith}
use lib.ListN.{get_or}
use Rattle.verdict.proofs.SnapshotLaws.{not_yet, long_before}
use Rattle.verdict.proofs.Clashing.{not_over, over}
use Rattle.verdict.proofs.snapshots.clashes.Goals as goal

pub returns-then-j-theirs : goal.returns-then-j-theirs
returns-then-j-theirs c =
    let q = c.requires in
    not_over _ _ _ q.0 q.4 q.5 (sym q.6) q.7 q.8 (not_yet _ _ _ _ q.2 q.3 q.7 q.8 (rw c.step_of-theirs.ensures at c.if-j-theirs.true))

pub returns-then-theirs-step_of : goal.returns-then-theirs-step_of
returns-then-theirs-step_of c =
    let q = c.requires in
    let h : get_or c.args.commits.now c.args.p 0 ≤ get_or c.args.begins.now c.args.t 0 = omega (arith, c.if-theirs-step_of.true, c.step_of-theirs.ensures, c.step_of.ensures) in
    not_over _ _ _ q.0 q.4 q.5 (sym q.6) q.7 q.8 (long_before _ _ _ _ q.2 q.3 q.7 q.8 h)

pub returns : goal.returns
returns c =
    let q = c.requires in
    let a = c.args in
    let j : get_or a.commits.now a.p 0 < a.j = omega (arith, c.if-j-theirs.false, c.step_of-theirs.ensures) in
    let k : get_or a.begins.now a.t 0 < get_or a.commits.now a.p 0 = omega (arith, c.if-theirs-step_of.false, c.step_of-theirs.ensures, c.step_of.ensures) in
    over _ _ _ q.0 q.4 q.5 (sym q.6) q.7 q.8 c.common.result q.1 q.2 q.3 j k (rw (c.from.ensures, c.from-2.ensures) at c.common.ensures)
