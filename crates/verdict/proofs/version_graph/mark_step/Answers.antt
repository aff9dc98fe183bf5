-- `mark_step` meets its contract.
use mathlib.Core.Path.{◌≡◌, refl, sym, ◌∙◌}
use mathlib.Core.Bool.{true}
use mathlib.Core.List.{List}
use Prim.Native.Nat.{ℕ, ◌<◌}
use Rattle.verdict.specs.Limits.{transactions, objects}
use Rattle.verdict.specs.Log.{steps, kind, tx, committed}
use Rattle.verdict.proofs.WellFormed.{Well, well_formed, object_within, ranges}
use Rattle.verdict.proofs.Matrices.{told_committed}
use Rattle.verdict.proofs.NextWriters.{next_read, next_write}
use Rattle.verdict.proofs.VersionGraph.{open_step, other_step, none_drawn, write_drawn, read_drawn}
use native.Mathlib.Omega.{arith}
use Rattle.verdict.proofs.version_graph.mark_step.Lts
use Rattle.verdict.proofs.version_graph.mark_step.Tie as tie
use Rattle.verdict.proofs.version_graph.mark_step.Reads
use Rattle.verdict.proofs.version_graph.mark_step.Goals as goal

-- places on the way, by the names that the toolchain gives them
abbrev After-step_at-step : Type 0
After-step_at-step = Lts.After-step_at tie.the-claims Reads.Pre Reads.Post

abbrev After-takes_part : Type 0
After-takes_part = Lts.After-takes_part tie.the-claims Reads.Pre Reads.Post

abbrev Else-not-takes_part : Type 0
Else-not-takes_part = Lts.Else1 tie.the-claims Reads.Pre Reads.Post

abbrev Else-step-eq-READ : Type 0
Else-step-eq-READ = Lts.Else2 tie.the-claims Reads.Pre Reads.Post

abbrev Then-step-eq-READ : Type 0
Then-step-eq-READ = Lts.Then2 tie.the-claims Reads.Pre Reads.Post

module _ (c : After-step_at-step) where
  abbrev the_log : List ℕ
  the_log = c.args.log.now

  abbrev i : ℕ
  i = c.args.i

  inside : i < steps the_log
  unfolding steps
  inside = omega arith

  well : Well transactions the_log
  well = well_formed the_log c.requires.0

  object : c.step_at-step.result.obj < objects
  object = rw c.step_at-step.ensures.obj_is (object_within the_log i (ranges the_log c.requires.0 i inside))

-- what the marks say of its transaction
told : (c : After-takes_part) → c.takes_part.result ≡ committed (the_log c.before) (tx (the_log c.before) (i c.before))
told c = told_committed c.requires.2 c.takes_part.ensures c.step_at-step.ensures.tx_is

by_committed : (c : Else-not-takes_part) → committed (the_log c.before.before) (tx (the_log c.before.before) (i c.before.before)) ≡ true
by_committed c = sym (told c.before) ∙ c.if-not-takes_part.false

-- it is a read, or not
is_read : (c : Then-step-eq-READ) → kind (the_log c.before.before.before.before) (i c.before.before.before.before) ≡ 2
is_read c = sym c.step_at-step.ensures.kind_is ∙ c.if-step-eq-READ.true

no_read : (c : Else-step-eq-READ) → kind (the_log c.before.before.before.before) (i c.before.before.before.before) ≡ 2 → ⊥
no_read c e = c.if-step-eq-READ.false (c.step_at-step.ensures.kind_is ∙ e)

pub takes_part-requires : goal.takes_part-requires
takes_part-requires c = rw c.step_at-step.ensures.tx_is ((well c.before).range (i c.before) (inside c.before))

pub returns-then-not-takes_part : goal.returns-then-not-takes_part
returns-then-not-takes_part c = none_drawn _ _ c.requires.4 (open_step _ (i c.before.before.before) (sym (told c.before.before) ∙ c.if-not-takes_part.true))

pub join-requires : goal.join-requires
join-requires c = c.requires.4.size

pub join_next-requires : goal.join_next-requires
join_next-requires c =
    (c.join.ensures.size ∙ c.requires.4.size, rw c.step_at-step.ensures.src_is ((well c.before.before.before.before.before.before.before.before).sources (i c.before.before.before.before.before.before.before.before) (inside c.before.before.before.before.before.before.before.before) (is_read c.before.before.before.before)), object c.before.before.before.before.before.before.before.before)

pub returns-then-step-eq-READ : goal.returns-then-step-eq-READ
returns-then-step-eq-READ c =
    let step = c.step_at-step.ensures in
    read_drawn _ _ c.requires.4 (by_committed c.before.before.before.before.before.before.before) (is_read c.before.before.before.before.before) step.src_is step.tx_is
    (next_read (well c.before.before.before.before.before.before.before.before.before) c.requires.3 (i c.before.before.before.before.before.before.before.before.before) (inside c.before.before.before.before.before.before.before.before.before) (is_read c.before.before.before.before.before) step.src_is step.obj_is refl) c.join.ensures c.join_next.ensures

pub join_next-requires-then-step-eq-WRITE : goal.join_next-requires-then-step-eq-WRITE
join_next-requires-then-step-eq-WRITE c =
    (c.requires.4.size, rw c.step_at-step.ensures.tx_is ((well c.before.before.before.before.before.before.before.before).range (i c.before.before.before.before.before.before.before.before) (inside c.before.before.before.before.before.before.before.before)).1, object c.before.before.before.before.before.before.before.before)

pub returns-then-step-eq-WRITE : goal.returns-then-step-eq-WRITE
returns-then-step-eq-WRITE c =
    let step = c.step_at-step.ensures in
    let is_write = sym step.kind_is ∙ c.if-step-eq-WRITE.true in
    write_drawn _ _ c.requires.4 (by_committed c.before.before.before.before.before.before.before) is_write step.tx_is
    (next_write (well c.before.before.before.before.before.before.before.before.before) c.requires.3 (i c.before.before.before.before.before.before.before.before.before) (inside c.before.before.before.before.before.before.before.before.before) is_write step.tx_is step.obj_is refl) c.join_next-then-step-eq-WRITE.ensures

pub returns-else-step-eq-WRITE : goal.returns-else-step-eq-WRITE
returns-else-step-eq-WRITE c =
    none_drawn _ _ c.requires.4 (other_step _ (i c.before.before.before.before.before.before.before) (no_read c.before.before.before) (λ e. c.if-step-eq-WRITE.false (c.step_at-step.ensures.kind_is ∙ e)))
