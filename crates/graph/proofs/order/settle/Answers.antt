-- `settle` meets its contract.
use Rattle.graph.specs.Inner.Waiting.{nobody}
use Rattle.graph.proofs.Ready.{settled_ready, settled_waits, none_before, one_before}
use Rattle.graph.proofs.order.settle.Goals as goal

pub returns-in-None : goal.returns-in-None
returns-in-None c = λ todo others d t.
    rw t.after (settled_ready d _ t.one _ (none_before _ _ _ _ c.before-2.ensures c.in-None.ensures) c.with_vertex.ensures)

pub returns-in-Some : goal.returns-in-Some
unfolding nobody
returns-in-Some c = λ todo others d t.
    rw t.after (settled_waits d _ t.one _ _ _ (one_before _ _ _ _ c.before-2.ensures _ c.in-Some.ensures.one) c.with_vertex-one.ensures c.join.ensures)
