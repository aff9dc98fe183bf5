-- `conflict_reasons` meets its contract.
use mathlib.Core.Path.{◌≡◌, refl, sym, ap₂, ◌∙◌}
use mathlib.Core.List.{List}
use Prim.Native.Nat.{ℕ, ◌/◌, ◌≤◌, ◌<◌}
use native.Mathlib.Omega.{arith}
use native.Mathlib.Numerals.{add-one}
use lib.ListN.{length}
use Rattle.words.specs.Tests.{some}
use Rattle.verdict.specs.Limits.{transactions, objects}
use Rattle.verdict.specs.Log.{steps, tx, obj, committed}
use Rattle.verdict.specs.Inner.ConflictEdges.{touched_row}
use Rattle.verdict.specs.Inner.ConflictReasons.{conflict_until}
use Rattle.verdict.proofs.WellFormed.{well_formed, object_within, ranges}
use Rattle.verdict.proofs.Matrices.{told_committed}
use Rattle.verdict.proofs.ConflictGraph.{untouched, open_step, touches_none, touched_more}
use Rattle.verdict.proofs.LeastReasons.{best_none}
use Rattle.verdict.proofs.ConflictReasons.{ends_nothing, ends_offered, all_conflict_reasons}
use Rattle.verdict.proofs.conflict_reasons.conflict_reasons.Lts
use Rattle.verdict.proofs.conflict_reasons.conflict_reasons.Tie as tie
use Rattle.verdict.proofs.conflict_reasons.conflict_reasons.Reads
use Rattle.verdict.proofs.conflict_reasons.conflict_reasons.Goals as goal
use Rattle.verdict.proofs.conflict_reasons.conflict_reasons.Goals.{then-takes_part, else-takes_part}

-- places on the way, by the names that the toolchain gives them
abbrev After-from : Type 0
After-from = Lts.After-from tie.the-claims Reads.Pre Reads.Post goal.the-invariant-loop-j goal.the-decreases-loop-j

abbrev After-step_at-step : Type 0
After-step_at-step = Lts.After-step_at tie.the-claims Reads.Pre Reads.Post goal.the-invariant-loop-j goal.the-decreases-loop-j

abbrev After-takes_part : Type 0
After-takes_part = Lts.After-takes_part tie.the-claims Reads.Pre Reads.Post goal.the-invariant-loop-j goal.the-decreases-loop-j

abbrev Start : Type 0
Start = Lts.Start tie.the-claims Reads.Pre Reads.Post goal.the-invariant-loop-j goal.the-decreases-loop-j

module _ (c : After-step_at-step) where
  abbrev start : Start
  start = c.before.before.before.before.before.before

  abbrev the_log : List ℕ
  the_log = start.args.log.now

  abbrev j : ℕ
  j = c.loop-j.j

  inside : j < steps the_log
  unfolding steps
  inside = omega arith

  in_range : (1 ≤ tx the_log j) × (tx the_log j ≤ transactions)
  in_range = (well_formed the_log start.requires.0).range j inside

  object : obj the_log j < objects
  object = object_within the_log j (ranges the_log start.requires.0 j inside)

-- what the marks say of its transaction
told : (c : After-takes_part) → c.takes_part.result ≡ committed (the_log c.before) (tx (the_log c.before) (j c.before))
told c = told_committed (start c.before).requires.1 c.takes_part.ensures c.step_at-step.ensures.tx_is

placed : (c : After-from) → c.from.result ≡ tx (the_log c.before.before.before.before.before) (j c.before.before.before.before.before)
placed c = c.from.ensures ∙ c.step_at-step.ensures.tx_is

pub loop-j-init : goal.loop-j-init
unfolding conflict_until some
loop-j-init c = (best_none c.requires.2 (λ a b x k. refl), untouched _)

pub takes_part-requires : goal.takes_part-requires
takes_part-requires c = rw c.step_at-step.ensures.tx_is (in_range c.before)

pub offset_bounds-before-from : goal.offset_bounds-before-from
offset_bounds-before-from c = omega (arith, placed c.before, (in_range c.before.before.before.before.before.before).1)

pub bounds-before-from : goal.bounds-before-from
bounds-before-from c = omega (arith, placed c.before, (in_range c.before.before.before.before.before.before).1)

pub offer_earlier-requires : goal.offer_earlier-requires
offer_earlier-requires c =
    (c.loop-j.invariant.0.size, c.before_each-before.ensures.within _ (omega (arith, placed c.before, (in_range c.before.before.before.before.before.before).1)), rw c.step_at-step.ensures.obj_is (object c.before.before.before.before.before.before))

pub touched_row-requires : goal.touched_row-requires
touched_row-requires c =
    rw c.step_at-step.ensures.obj_is (object c.before.before.before.before.before.before.before.before.before.before)

pub loop-j-preserved : goal.loop-j-preserved
loop-j-preserved c =
    let step = c.step_at-step.ensures in
    let known = c.loop-j.invariant in
    let stands = c.before_each-before.ensures in
    let q = (start c.before.before.before).requires in (
      elim c.if-takes_part.branch [
        | then-takes_part w ↦ rw (w.best-is, add-one c.loop-j.j) (ends_offered (the_log c.before.before.before) stands q.3 c.loop-j.j (in_range c.before.before.before).1 known.1 (object c.before.before.before)
            (w.from.ensures ∙ step.tx_is) step.kind_is step.obj_is (w.offer_earlier.ensures _ _ q.2 known.0))
        | else-takes_part w ↦ rw (w.best-is, add-one c.loop-j.j) (ends_nothing (the_log c.before.before.before) stands q.3 c.loop-j.j (in_range c.before.before.before).1 q.2
            (sym (told c.before.before) ∙ w.if-takes_part.false) known.0)
      ],
      elim c.if-takes_part.branch [
        | then-takes_part w ↦ rw (w.touched-is, add-one c.loop-j.j) (touched_more _ _ (sym (told c.before.before) ∙ w.if-takes_part.true) (in_range c.before.before.before) known.1
            (object c.before.before.before) (w.from-then-takes_part.ensures ∙ step.tx_is) w.with_vertex-one.ensures
            (w.touched_row.ensures ∙ ap₂ touched_row step.kind_is step.obj_is) w.join.ensures)
        | else-takes_part w ↦ rw (w.touched-is, add-one c.loop-j.j) (touches_none _ (open_step _ _ (sym (told c.before.before) ∙ w.if-takes_part.false)) known.1)
      ],
    )

pub returns : goal.returns
unfolding steps
returns c =
    let e : c.loop-j.j ≡ length c.args.log.now / 4 = omega arith in
    all_conflict_reasons _ (rw e at c.loop-j.invariant.0)
