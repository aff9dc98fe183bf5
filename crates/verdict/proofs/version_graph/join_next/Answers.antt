-- `join_next` meets its contract.
use Rattle.verdict.proofs.version_graph.join_next.Goals as goal

pub returns : goal.returns
returns c = rw c.next_of-then.ensures at c.join.ensures
