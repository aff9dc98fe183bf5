-- `inside` meets its contract.
use mathlib.Core.Logic.{inl, inr}
use native.Mathlib.Omega.{arith}
use Rattle.live.proofs.Numbers.{range_kind, range_object, only_commit}
use Rattle.live.proofs.TookInside.{inside_read, inside_write}
use Rattle.live.proofs.step.Live.inside.Goals as goal

pub note_read-requires : goal.note_read-requires
note_read-requires c =
    let p = c.requires in
    (p.0.rows, p.0.marks, p.3.0, omega (arith, p.3.1, p.2), range_object _ _ _ _ p.5 (inl c.if-k-eq-READ.true))

pub returns-then-k-eq-READ : goal.returns-then-k-eq-READ
returns-then-k-eq-READ c =
    let p = c.requires in
    rw c.told.ensures (inside_read p.0 p.1 p.2 p.3 p.4 p.5 p.6 c.if-k-eq-READ.true c.note_read.ensures)

pub note_write-requires : goal.note_write-requires
note_write-requires c =
    let p = c.requires in
    (p.0.marks, p.3.0, omega (arith, p.3.1, p.2), range_object _ _ _ _ p.5 (inr c.if-k-eq-WRITE.true))

pub returns-then-k-eq-WRITE : goal.returns-then-k-eq-WRITE
returns-then-k-eq-WRITE c =
    let p = c.requires in
    rw c.told-then-k-eq-WRITE.ensures (inside_write p.0 p.1 p.2 p.3 p.4 p.5 p.6 c.if-k-eq-WRITE.true c.note_write.ensures)

pub returns-then-k-eq-ABORT : goal.returns-then-k-eq-ABORT
returns-then-k-eq-ABORT c =
    let p = c.requires in
    c.abort.ensures _ _ _ _ _ p.0.marks p.1 p.4 c.if-k-eq-ABORT.true p.5

pub returns : goal.returns
returns c =
    let p = c.requires in
    c.commit.ensures _ _ _ (only_commit (range_kind _ _ _ _ p.5) p.6 c.if-k-eq-READ.false c.if-k-eq-WRITE.false c.if-k-eq-ABORT.false) p.5
