-- `plan` meets its contract. At each turn the lowest that can be tried is known.
use mathlib.Core.Path.{refl}
use native.Mathlib.Omega.{arith}
use Rattle.words.proofs.Truth.{lowest_none}
use Rattle.plan.proofs.Proposals.{nobody_0}
use Rattle.plan.proofs.Plans.{planning_start, tried_marked, planning_next, planning_done, less_to_do}
use Rattle.plan.proofs.planner.plan.Goals as goal

pub loop-t-init : goal.loop-t-init
loop-t-init c = planning_start _ c.requires _ _ c.who_committed-back.ensures refl (nobody_0 _ c.requires _ c.who_committed-back.ensures)

pub try_back-waited-requires : goal.try_back-waited-requires
try_back-waited-requires c =
    let p = c.loop-t.invariant in
    let t = c.in-Some.ensures in
    (c.requires, p.size, p.none_0, tried_marked _ _ _ p _ t.1 t.0, p.fine, omega (arith, t.0))

pub loop-t-smaller : goal.loop-t-smaller
loop-t-smaller c = less_to_do _ _ _ c.loop-t.invariant _ c.in-Some.ensures.1 c.in-Some.ensures.0 _ _ c.try_back-waited.ensures c.mark_after.ensures

pub loop-t-preserved : goal.loop-t-preserved
loop-t-preserved c = planning_next _ _ _ c.loop-t.invariant _ c.in-Some.ensures.1 c.in-Some.ensures.0 _ _ c.try_back-waited.ensures c.mark_after.ensures

pub returns : goal.returns
returns c = planning_done _ _ _ c.loop-t.invariant (omega (arith, lowest_none _ c.in_default.ensures))
