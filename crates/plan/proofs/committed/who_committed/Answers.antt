-- `who_committed` meets its contract. At each turn those are marked that commit in the first i steps.
use Rattle.std.proofs.Common.{refl, arith}
use Rattle.verdict.specs.Log.{steps}
use Rattle.plan.proofs.WhoCommitted.{none_noted, all_noted}
use Rattle.plan.proofs.committed.who_committed.Goals as goal

pub loop-i-init : goal.loop-i-init
loop-i-init c = none_noted _ _ refl

pub mark_commit-requires : goal.mark_commit-requires
mark_commit-requires c = (c.requires, omega arith, c.loop-i.invariant)

pub loop-i-preserved : goal.loop-i-preserved
loop-i-preserved c = c.mark_commit.ensures

pub returns : goal.returns
unfolding steps
returns c = all_noted _ _ _ (omega arith) c.loop-i.invariant
