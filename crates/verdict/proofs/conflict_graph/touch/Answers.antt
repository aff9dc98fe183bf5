-- `touch` meets its contract.
use Rattle.verdict.proofs.conflict_graph.touch.Goals as goal

pub returns : goal.returns
returns c =
    record {
      before = c.earlier-before.result;
      known = c.earlier-before.ensures;
      joins = rw c.from.ensures at c.join.ensures;
      one = c.with_vertex-one.result;
      single = rw c.from-2.ensures at c.with_vertex-one.ensures;
      noted = rw c.touched_row.ensures at c.join-2.ensures;
    }
