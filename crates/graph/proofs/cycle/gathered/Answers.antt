-- `gathered` meets its contract.
use Rattle.graph.proofs.SetWalks.{gathered_none, gathered_turn, gathered_all}
use borrow.Author.Rules.{rules}
use Rattle.graph.proofs.cycle.gathered.Goals as goal

pub loop-u-init : goal.loop-u-init
loop-u-init c = rw c.into_iter-u-iterator.ensures.into_iter_gives (gathered_none _ _ (search rules))

pub loop-u-preserved : goal.loop-u-preserved
loop-u-preserved c = gathered_turn c.loop-u.invariant c.in-Some.ensures.steps _ _ c.before-in-loop-u.ensures c.union-more.ensures

pub returns : goal.returns
returns c = gathered_all c.loop-u.invariant c.in-None.ensures.steps
