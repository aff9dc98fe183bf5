-- `earlier` meets its contract.
use Rattle.verdict.proofs.ConflictGraph.{before_read, before_write, before_none}
use Rattle.verdict.proofs.conflict_graph.earlier.Goals as goal

pub returns-then-kind-eq-READ : goal.returns-then-kind-eq-READ
returns-then-kind-eq-READ c =
    before_read _ _ _ c.if-kind-eq-READ.true _ (rw c.touched_row.ensures at c.row-writers.ensures)

pub returns-then-kind-eq-WRITE : goal.returns-then-kind-eq-WRITE
returns-then-kind-eq-WRITE c =
    before_write _ _ _ c.if-kind-eq-WRITE.true _ _ _ (rw c.touched_row.ensures at c.row-writers.ensures) (rw c.touched_row-then-kind-eq-WRITE.ensures at c.row.ensures) c.union.ensures

pub returns : goal.returns
returns c = before_none _ _ _ c.if-kind-eq-READ.false c.if-kind-eq-WRITE.false
