-- `is_fine` meets its contract.
use Rattle.plan.specs.Inner.Trials.{so, not_so}
use Rattle.plan.proofs.Trying.{fine_told, not_fine_told, cycle≢order, none≢order, unclean≢order}
use Rattle.plan.proofs.changed.is_fine.Goals as goal

pub returns-in-Order : goal.returns-in-Order
returns-in-Order c = so (fine_told c.version_after.ensures c.in-Order.is)

pub returns-in-Cycle : goal.returns-in-Cycle
returns-in-Cycle c = not_so (not_fine_told c.version_after.ensures (λ n. cycle≢order c.in-Cycle.is))

pub returns-in-None : goal.returns-in-None
returns-in-None c = not_so (not_fine_told c.version_after.ensures (λ n. none≢order c.in-None.is))

pub returns-in-Unclean : goal.returns-in-Unclean
returns-in-Unclean c = not_so (not_fine_told c.version_after.ensures (λ n. unclean≢order c.in-Unclean.is))
