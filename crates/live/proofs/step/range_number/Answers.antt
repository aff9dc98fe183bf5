-- `range_number` meets its contract.
use mathlib.Core.Logic.{inl, inr}
use native.Mathlib.Omega.{arith}
use Rattle.live.proofs.Numbers.{range_three, range_four, range_five, range_six, range_none}
use Rattle.live.proofs.step.range_number.Goals as goal

pub returns-then-k-lt-BEGIN : goal.returns-then-k-lt-BEGIN
returns-then-k-lt-BEGIN c = (range_three _ _ _ _ (inl c.if-k-lt-BEGIN.true), λ z. omega arith)

pub returns-then-k-gt-ABORT : goal.returns-then-k-gt-ABORT
returns-then-k-gt-ABORT c = (range_three _ _ _ _ (inr c.if-k-gt-ABORT.true), λ z. omega arith)

pub returns-then-t-lt1 : goal.returns-then-t-lt1
returns-then-t-lt1 c = (range_four _ _ _ _ c.if-k-lt-BEGIN.false c.if-k-gt-ABORT.false c.if-t-lt1.true, λ z. omega arith)

pub returns-then-objects_of-x : goal.returns-then-objects_of-x
returns-then-objects_of-x c = (range_five _ _ _ _ c.if-k-lt-BEGIN.false c.if-k-gt-ABORT.false c.if-t-lt1.false c.ranges.t.fits c.objects_of.ensures c.if-objects_of-x.true, λ z. omega arith)

pub returns-then-s-eq0 : goal.returns-then-s-eq0
returns-then-s-eq0 c = range_none _ _ _ _ c.if-k-lt-BEGIN.false c.if-k-gt-ABORT.false c.if-t-lt1.false c.ranges.t.fits c.objects_of.ensures c.if-objects_of-x.false (inl c.if-s-eq0.true)

pub returns-then-k-eq-READ : goal.returns-then-k-eq-READ
returns-then-k-eq-READ c = range_none _ _ _ _ c.if-k-lt-BEGIN.false c.if-k-gt-ABORT.false c.if-t-lt1.false c.ranges.t.fits c.objects_of.ensures c.if-objects_of-x.false (inr c.if-k-eq-READ.true)

pub returns : goal.returns
returns c = (range_six _ _ _ _ c.if-k-lt-BEGIN.false c.if-k-gt-ABORT.false c.if-t-lt1.false c.ranges.t.fits c.objects_of.ensures c.if-objects_of-x.false c.if-s-eq0.false c.if-k-eq-READ.false, λ z. omega arith)
