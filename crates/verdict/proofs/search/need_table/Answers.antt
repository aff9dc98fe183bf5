-- `need_table` meets its contract.
use mathlib.Core.Path.{◌≡◌, sym, ◌∙◌}
use mathlib.Core.Bool.{true}
use mathlib.Core.Logic.{inl}
use mathlib.Core.List.{List}
use Prim.Native.Nat.{ℕ, ◌/◌, ◌≤◌, ◌<◌}
use native.Mathlib.Omega.{arith}
use lib.ListN.{length}
use Rattle.verdict.specs.Limits.{transactions, objects}
use Rattle.verdict.specs.Log.{steps, tx, obj, src}
use Rattle.verdict.specs.Refusal.{log_refusal}
use Rattle.verdict.specs.Clean.{judged_other}
use Rattle.verdict.specs.Answers.{Passed}
use Rattle.verdict.proofs.WellFormed.{well_formed}
use Rattle.verdict.proofs.JudgedReads.{is_read}
use Rattle.verdict.proofs.SearchTables.{needed_none, needed_same, needed_more, needed_all}
use Rattle.verdict.proofs.search.need_table.Goals as goal
use Rattle.verdict.proofs.search.need_table.Goals.{then-judged_other, else-judged_other}

-- transaction, object and source of a judged read are within the limits
within : (log : List ℕ) (i : ℕ) → log_refusal log ≡ Passed → i < steps log → judged_other log i ≡ true
    → (tx log i ≤ transactions) × (obj log i < objects) × (src log i ≤ transactions)
within log i passed h judged =
    let well = well_formed log passed in
    let read = is_read log i judged in
    ((well.range i h).1, well.object i h (inl read), well.sources i h read)

pub loop-i-init : goal.loop-i-init
loop-i-init c = (c.requires.0, c.requires.1, needed_none _ 8256 (omega arith))

pub judged_other-requires : goal.judged_other-requires
judged_other-requires c = (c.loop-i.invariant.0, omega arith, c.loop-i.invariant.1)

pub bounds-table-k : goal.bounds-table-k
unfolding steps
bounds-table-k c =
    let h = within _ _ c.loop-i.invariant.0 (omega arith) (sym c.judged_other.ensures ∙ c.if-judged_other.true) in
    let step = c.step_at-step.ensures in
    omega (arith, c.from-row.ensures, c.from-column.ensures, step.tx_is, step.obj_is, h)

pub with_source-requires : goal.with_source-requires
unfolding steps
with_source-requires c =
    let h = within _ _ c.loop-i.invariant.0 (omega arith) (sym c.judged_other.ensures ∙ c.if-judged_other.true) in
    omega (arith, c.step_at-step.ensures.src_is, h)

pub bounds-table-k-then-judged_other : goal.bounds-table-k-then-judged_other
unfolding steps
bounds-table-k-then-judged_other c =
    let h = within _ _ c.loop-i.invariant.0 (omega arith) (sym c.judged_other.ensures ∙ c.if-judged_other.true) in
    let step = c.step_at-step.ensures in
    omega (arith, c.from-row.ensures, c.from-column.ensures, step.tx_is, step.obj_is, h)

pub loop-i-preserved : goal.loop-i-preserved
unfolding steps
loop-i-preserved c =
    let loop = c.loop-i in
    let says = sym c.judged_other.ensures in (
      loop.invariant.0,
      loop.invariant.1,
      elim c.if-judged_other.branch [
        | then-judged_other w ↦
            let judged = says ∙ w.if-judged_other.true in
            let h = within _ loop.i loop.invariant.0 (omega arith) judged in
            let step = w.step_at-step.ensures in
            rw (w.table-is, w.with_source.ensures, w.from-row.ensures ∙ step.tx_is, w.from-column.ensures ∙ step.obj_is, step.src_is)
            (needed_more _ loop.i loop.invariant.2 judged h.0 h.1)
        | else-judged_other w ↦ rw w.table-is (needed_same _ loop.i loop.invariant.2 (says ∙ w.if-judged_other.false))
      ],
    )

pub returns : goal.returns
unfolding steps
returns c =
    let e : c.loop-i.i ≡ length c.args.log.now / 4 = omega arith in
    needed_all _ (rw e at c.loop-i.invariant.2)
