-- `offer_step` meets its contract.
use mathlib.Core.Path.{◌≡◌, refl, sym, ◌∙◌}
use mathlib.Core.Bool.{true}
use mathlib.Core.List.{List}
use Prim.Native.Nat.{ℕ, ◌≤◌, ◌<◌}
use native.Mathlib.Omega.{arith}
use Rattle.verdict.specs.Limits.{transactions, objects}
use Rattle.verdict.specs.Log.{steps, kind, tx, obj, src, committed}
use Rattle.verdict.specs.Inner.VersionEdges.{next_writer}
use Rattle.verdict.proofs.WellFormed.{Well, well_formed, object_within, ranges}
use Rattle.verdict.proofs.Matrices.{told_committed}
use Rattle.verdict.proofs.NextWriters.{next_read, next_write}
use Rattle.verdict.proofs.VersionGraph.{next_range}
use Rattle.verdict.proofs.VersionReasons.{open_reasons, other_reasons, none_offered, write_offered, read_offered}
use Rattle.verdict.proofs.version_reasons.offer_step.Lts
use Rattle.verdict.proofs.version_reasons.offer_step.Tie as tie
use Rattle.verdict.proofs.version_reasons.offer_step.Reads
use Rattle.verdict.proofs.version_reasons.offer_step.Goals as goal

-- places on the way, by the names that the toolchain gives them
abbrev After-next_of-then : Type 0
After-next_of-then = Lts.After-next_of tie.the-claims Reads.Pre Reads.Post

abbrev After-next_of-then-then-step-eq-WRITE : Type 0
After-next_of-then-then-step-eq-WRITE = Lts.After-next_of2 tie.the-claims Reads.Pre Reads.Post

abbrev After-step_at-step : Type 0
After-step_at-step = Lts.After-step_at tie.the-claims Reads.Pre Reads.Post

abbrev After-takes_part : Type 0
After-takes_part = Lts.After-takes_part tie.the-claims Reads.Pre Reads.Post

abbrev Else-not-takes_part : Type 0
Else-not-takes_part = Lts.Else1 tie.the-claims Reads.Pre Reads.Post

abbrev Else-step-eq-READ : Type 0
Else-step-eq-READ = Lts.Else2 tie.the-claims Reads.Pre Reads.Post

abbrev Then-step-eq-READ : Type 0
Then-step-eq-READ = Lts.Then2 tie.the-claims Reads.Pre Reads.Post

abbrev Then-step-eq-WRITE : Type 0
Then-step-eq-WRITE = Lts.Then3 tie.the-claims Reads.Pre Reads.Post

module _ (c : After-step_at-step) where
  abbrev the_log : List ℕ
  the_log = c.args.log.now

  abbrev i : ℕ
  i = c.args.i

  inside : i < steps the_log
  unfolding steps
  inside = omega arith

  well : Well transactions the_log
  well = well_formed the_log c.requires.0

  object : c.step_at-step.result.obj < objects
  object = rw c.step_at-step.ensures.obj_is (object_within the_log i (ranges the_log c.requires.0 i inside))

  -- its transaction
  low : c.step_at-step.result.tx ≤ transactions
  low = rw c.step_at-step.ensures.tx_is (well.range i inside).1

-- what the marks say of it
told : (c : After-takes_part) → c.takes_part.result ≡ committed (the_log c.before) (tx (the_log c.before) (i c.before))
told c = told_committed c.requires.2 c.takes_part.ensures c.step_at-step.ensures.tx_is

by_committed : (c : Else-not-takes_part) → committed (the_log c.before.before) (tx (the_log c.before.before) (i c.before.before)) ≡ true
by_committed c = sym (told c.before) ∙ c.if-not-takes_part.false

-- it is a read, or a write, or neither
is_read : (c : Then-step-eq-READ) → kind (the_log c.before.before.before.before) (i c.before.before.before.before) ≡ 2
is_read c = sym c.step_at-step.ensures.kind_is ∙ c.if-step-eq-READ.true

no_read : (c : Else-step-eq-READ) → kind (the_log c.before.before.before.before) (i c.before.before.before.before) ≡ 2 → ⊥
no_read c e = c.if-step-eq-READ.false (c.step_at-step.ensures.kind_is ∙ e)

is_write : (c : Then-step-eq-WRITE) → kind (the_log c.before.before.before.before.before.before) (i c.before.before.before.before.before.before) ≡ 3
is_write c = sym c.step_at-step.ensures.kind_is ∙ c.if-step-eq-WRITE.true

-- the source of a read, and the writers of the next versions
source : (c : Then-step-eq-READ) → c.step_at-step.result.src ≤ transactions
source c = rw c.step_at-step.ensures.src_is ((well c.before.before.before.before).sources (i c.before.before.before.before) (inside c.before.before.before.before) (is_read c))

read_next : (c : After-next_of-then) → c.next_of-then.result ≡ next_writer (the_log c.before.before.before.before.before) (obj (the_log c.before.before.before.before.before) (i c.before.before.before.before.before)) (src (the_log c.before.before.before.before.before) (i c.before.before.before.before.before))
read_next c =
    let step = c.step_at-step.ensures in
    c.next_of-then.ensures ∙ next_read (well c.before.before.before.before.before) c.requires.3 (i c.before.before.before.before.before) (inside c.before.before.before.before.before) (is_read c.before) step.src_is step.obj_is refl

write_next : (c : After-next_of-then-then-step-eq-WRITE) → c.next_of-then-then-step-eq-WRITE.result ≡ next_writer (the_log c.before.before.before.before.before.before.before) (obj (the_log c.before.before.before.before.before.before.before) (i c.before.before.before.before.before.before.before)) (tx (the_log c.before.before.before.before.before.before.before) (i c.before.before.before.before.before.before.before))
write_next c =
    let step = c.step_at-step.ensures in
    c.next_of-then-then-step-eq-WRITE.ensures ∙ next_write (well c.before.before.before.before.before.before.before) c.requires.3 (i c.before.before.before.before.before.before.before) (inside c.before.before.before.before.before.before.before) (is_write c.before) step.tx_is step.obj_is refl

pub takes_part-requires : goal.takes_part-requires
takes_part-requires c = rw c.step_at-step.ensures.tx_is ((well c.before).range (i c.before) (inside c.before))

pub returns-then-not-takes_part : goal.returns-then-not-takes_part
returns-then-not-takes_part c ring stands best = none_offered _ (i c.before.before.before) best (open_reasons _ (i c.before.before.before) (sym (told c.before.before) ∙ c.if-not-takes_part.true))

pub next_of-then-requires : goal.next_of-then-requires
next_of-then-requires c = (source c.before, object c.before.before.before.before.before)

pub offer_edge-requires : goal.offer_edge-requires
offer_edge-requires c =
    (c.requires.4, source c.before.before.before, low c.before.before.before.before.before.before.before, object c.before.before.before.before.before.before.before, omega arith)

pub offer_edge-requires-then-step-eq-READ : goal.offer_edge-requires-then-step-eq-READ
offer_edge-requires-then-step-eq-READ c =
    (c.offer_edge.ensures.0, low c.before.before.before.before.before.before.before.before.before, rw (read_next c.before.before.before.before) (next_range _ (well c.before.before.before.before.before.before.before.before.before) _ _), object c.before.before.before.before.before.before.before.before.before, omega arith)

pub returns-then-step-eq-READ : goal.returns-then-step-eq-READ
returns-then-step-eq-READ c ring stands best =
    let step = c.step_at-step.ensures in
    read_offered _ (i c.before.before.before.before.before.before.before.before.before.before) (by_committed c.before.before.before.before.before.before.before.before) (is_read c.before.before.before.before.before.before) step.src_is step.tx_is step.obj_is (read_next c.before.before.before.before.before)
    (c.offer_edge-then-step-eq-READ.ensures.1 ring _ stands (c.offer_edge.ensures.1 ring _ stands best))

pub next_of-then-requires-then-step-eq-WRITE : goal.next_of-then-requires-then-step-eq-WRITE
next_of-then-requires-then-step-eq-WRITE c = (low c.before.before.before.before.before.before.before, object c.before.before.before.before.before.before.before)

pub offer_edge-requires-then-step-eq-WRITE : goal.offer_edge-requires-then-step-eq-WRITE
offer_edge-requires-then-step-eq-WRITE c =
    (c.requires.4, low c.before.before.before.before.before.before.before.before.before, rw (write_next c.before.before) (next_range _ (well c.before.before.before.before.before.before.before.before.before) _ _), object c.before.before.before.before.before.before.before.before.before, omega arith)

pub returns-then-step-eq-WRITE : goal.returns-then-step-eq-WRITE
returns-then-step-eq-WRITE c ring stands best =
    let step = c.step_at-step.ensures in
    write_offered _ (i c.before.before.before.before.before.before.before.before.before.before) (by_committed c.before.before.before.before.before.before.before.before) (is_write c.before.before.before.before) step.tx_is step.obj_is (write_next c.before.before.before)
    (c.offer_edge-then-step-eq-WRITE.ensures.1 ring _ stands best)

pub returns-else-step-eq-WRITE : goal.returns-else-step-eq-WRITE
returns-else-step-eq-WRITE c ring stands best =
    none_offered _ (i c.before.before.before.before.before.before.before) best (other_reasons _ (i c.before.before.before.before.before.before.before) (no_read c.before.before.before) (λ e. c.if-step-eq-WRITE.false (c.step_at-step.ensures.kind_is ∙ e)))
