-- `may_follow` meets its contract.
use Rattle.verdict.specs.Inner.Placing.{may_follow}
use Rattle.verdict.proofs.search.may_follow.Goals as goal

pub returns : goal.returns
unfolding may_follow
returns c = c.fits.ensures
