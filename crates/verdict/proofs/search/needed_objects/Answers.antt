-- `needed_objects` meets its contract.
use mathlib.Core.Path.{ap}
use Prim.Native.Nat.{ℕ, ◌*◌}
use native.Mathlib.Omega.{arith}
use Rattle.verdict.proofs.NeededMarks.{needed_nothing, needed_none_of, needed_some_of, needed_all_of}
use Rattle.verdict.proofs.search.needed_objects.Goals as goal
use Rattle.verdict.proofs.search.needed_objects.Goals.{then-need-row-ne0, else-need-row-ne0}

pub overflow_mul-row : goal.overflow_mul-row
overflow_mul-row c = omega (arith, c.from-row.ensures, c.requires)

pub loop-x-init : goal.loop-x-init
loop-x-init c = (ap (λ (n : ℕ). n * 64) c.from-row.ensures, c.requires, needed_nothing _ _)

pub loop-x-preserved : goal.loop-x-preserved
loop-x-preserved c =
    let inv = c.loop-x.invariant in (
      inv.0,
      inv.1,
      elim c.if-need-row-ne0.branch [
        | then-need-row-ne0 w ↦
            rw (w.marks-is, w.with_mark-marks.ensures) (needed_some_of inv.2 (omega arith) (rw inv.0 at w.if-need-row-ne0.true))
        | else-need-row-ne0 w ↦ rw w.marks-is (needed_none_of inv.2 (rw inv.0 at w.if-need-row-ne0.false))
      ],
    )

pub returns : goal.returns
returns c = needed_all_of c.loop-x.invariant.2 (omega arith)
