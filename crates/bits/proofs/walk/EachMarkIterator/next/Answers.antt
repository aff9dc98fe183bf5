-- `next` of `EachMark` meets its contract.
use mathlib.Core.Path.{sym, ◌∙◌}
use Rattle.std.proofs.Common.{rules}
use Rattle.bits.proofs.Walks.{turn_of, turn_fewer}
use Rattle.bits.proofs.walk.EachMarkIterator.next.Goals as goal

pub returns-clause-steps : goal.returns-clause-steps
returns-clause-steps c = turn_of _ _ _ (sym c.any_mark.ensures ∙ c.if-not-any_mark.false) c.lowest_mark-x.ensures c.without_mark-self.ensures

pub returns-clause-goes : goal.returns-clause-goes
returns-clause-goes c = search (rules, turn_fewer (returns-clause-steps c))
