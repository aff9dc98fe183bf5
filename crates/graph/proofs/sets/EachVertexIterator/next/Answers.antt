-- `next` of `EachVertex` meets its contract.
use mathlib.Core.Path.{◌≡◌}
use lib.ListN.{length}
use borrow.Author.Rules.{rules}
use Rattle.graph.proofs.Marks.{part→}
use Rattle.graph.proofs.SetWalks.{turn_of, turn_fewer}
use Rattle.graph.proofs.sets.EachVertexIterator.next.Goals as goal

pub dropped-self-requires : goal.dropped-self-requires
dropped-self-requires c = let p = part→ 128 _ _ c.in_ok-v.ensures.one in (p.low, p.high)

pub returns-clause-steps : goal.returns-clause-steps
returns-clause-steps c = turn_of c.in_ok-v.ensures c.dropped-self.ensures

pub returns-clause-goes : goal.returns-clause-goes
returns-clause-goes c =
    let two : length c.args.self.now.0 ≡ 2 = search rules in
    search (rules, turn_fewer two (returns-clause-steps c))
