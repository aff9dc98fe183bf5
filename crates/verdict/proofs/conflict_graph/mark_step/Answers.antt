-- `mark_step` meets its contract.
use mathlib.Core.Path.{◌≡◌, sym, ◌∙◌}
use mathlib.Core.Bool.{true}
use mathlib.Core.List.{List}
use Prim.Native.Nat.{ℕ, ◌≤◌, ◌<◌}
use native.Mathlib.Omega.{arith}
use Rattle.verdict.specs.Limits.{transactions, objects}
use Rattle.verdict.specs.Log.{steps, tx, obj, committed}
use Rattle.verdict.proofs.WellFormed.{well_formed, object_within, ranges}
use Rattle.verdict.proofs.Matrices.{told_committed}
use Rattle.verdict.proofs.ConflictGraph.{open_step, other_step, ends_none, touches_none, step_touches}
use Rattle.verdict.proofs.conflict_graph.mark_step.Lts
use Rattle.verdict.proofs.conflict_graph.mark_step.Tie as tie
use Rattle.verdict.proofs.conflict_graph.mark_step.Reads
use Rattle.verdict.proofs.conflict_graph.mark_step.Goals as goal

-- places on the way, by the names that the toolchain gives them
abbrev After-step_at-step : Type 0
After-step_at-step = Lts.After-step_at tie.the-claims Reads.Pre Reads.Post

abbrev After-takes_part : Type 0
After-takes_part = Lts.After-takes_part tie.the-claims Reads.Pre Reads.Post

abbrev Else-not-takes_part : Type 0
Else-not-takes_part = Lts.Else1 tie.the-claims Reads.Pre Reads.Post

module _ (c : After-step_at-step) where
  abbrev the_log : List ℕ
  the_log = c.args.log.now

  abbrev i : ℕ
  i = c.args.i

  inside : i < steps the_log
  unfolding steps
  inside = omega arith

  in_range : (1 ≤ tx the_log i) × (tx the_log i ≤ transactions)
  in_range = (well_formed the_log c.requires.0).range i inside

  object : obj the_log i < objects
  object = object_within the_log i (ranges the_log c.requires.0 i inside)

-- what the marks say of its transaction
told : (c : After-takes_part) → c.takes_part.result ≡ committed (the_log c.before) (tx (the_log c.before) (i c.before))
told c = told_committed c.requires.2 c.takes_part.ensures c.step_at-step.ensures.tx_is

by_committed : (c : Else-not-takes_part) → committed (the_log c.before.before) (tx (the_log c.before.before) (i c.before.before)) ≡ true
by_committed c = sym (told c.before) ∙ c.if-not-takes_part.false

pub takes_part-requires : goal.takes_part-requires
takes_part-requires c = rw c.step_at-step.ensures.tx_is (in_range c.before)

pub returns-then-not-takes_part : goal.returns-then-not-takes_part
returns-then-not-takes_part c =
    let q = c.requires in
    let idle = open_step _ (i c.before.before.before) (sym (told c.before.before) ∙ c.if-not-takes_part.true) in
    (ends_none _ idle q.3, touches_none _ idle q.4)

pub touch-requires : goal.touch-requires
touch-requires c = rw c.step_at-step.ensures.obj_is (object c.before.before.before.before.before.before.before)

pub returns-then-step-eq-READ : goal.returns-then-step-eq-READ
returns-then-step-eq-READ c =
    let step = c.step_at-step.ensures in
    let q = c.requires in
    step_touches _ _ (by_committed c.before.before.before.before.before.before) (in_range c.before.before.before.before.before.before.before.before) q.4 (object c.before.before.before.before.before.before.before.before) q.3 (sym c.if-step-eq-READ.true ∙ step.kind_is) step.tx_is step.obj_is c.touch.ensures

pub touch-requires-then-step-eq-WRITE : goal.touch-requires-then-step-eq-WRITE
touch-requires-then-step-eq-WRITE c = rw c.step_at-step.ensures.obj_is (object c.before.before.before.before.before.before.before.before.before)

pub returns-then-step-eq-WRITE : goal.returns-then-step-eq-WRITE
returns-then-step-eq-WRITE c =
    let step = c.step_at-step.ensures in
    let q = c.requires in
    step_touches _ _ (by_committed c.before.before.before.before.before.before.before.before) (in_range c.before.before.before.before.before.before.before.before.before.before) q.4 (object c.before.before.before.before.before.before.before.before.before.before) q.3 (sym c.if-step-eq-WRITE.true ∙ step.kind_is) step.tx_is step.obj_is c.touch-then-step-eq-WRITE.ensures

pub returns-else-step-eq-WRITE : goal.returns-else-step-eq-WRITE
returns-else-step-eq-WRITE c =
    let q = c.requires in
    let step = c.step_at-step.ensures in
    let idle = other_step _ (i c.before.before.before.before.before.before.before) (λ e. c.if-step-eq-READ.false (step.kind_is ∙ e)) (λ e. c.if-step-eq-WRITE.false (step.kind_is ∙ e)) in
    (ends_none _ idle q.3, touches_none _ idle q.4)
