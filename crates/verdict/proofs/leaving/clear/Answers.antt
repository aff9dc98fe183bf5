-- `clear` meets its contract.
use Rattle.words.specs.Lists.{zeros}
use Rattle.verdict.proofs.leaving.clear.Goals as goal

pub returns : goal.returns
unfolding zeros
returns c = c.fill.ensures.after (λ y e. e)
