-- `clear_proposal` meets its contract.
use Rattle.words.specs.Lists.{zeros}
use Rattle.plan.proofs.laying.clear_proposal.Goals as goal

pub returns : goal.returns
unfolding zeros
returns c = c.fill.ensures.after (λ y e. e)
