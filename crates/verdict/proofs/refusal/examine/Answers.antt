-- `examine` meets its contract.
use Rattle.std.proofs.Common.{refl}
use Rattle.words.proofs.Truth.{upto→}
use Rattle.verdict.specs.Log.{steps}
use Rattle.verdict.specs.Inner.Checking.{Learned}
use Rattle.verdict.proofs.Examining.{checks_as}
use Rattle.verdict.proofs.Made.{made_log, no_log}
use Rattle.verdict.proofs.Numbers.{odd_length, too_long, by_steps}
use Rattle.verdict.proofs.refusal.examine.Goals as goal

pub returns-then-log-ne0 : goal.returns-then-log-ne0
returns-then-log-ne0 c = odd_length _ c.if-log-ne0.true

pub returns-in_default : goal.returns-in_default
unfolding steps
returns-in_default c = too_long _ c.if-log-ne0.false (no_log _ c.of-made.ensures c.in_default.is)

pub check_steps-requires : goal.check_steps-requires
unfolding steps
check_steps-requires c = (refl, upto→ (made_log _ c.of-made.ensures c.in-Some.is))

pub returns : goal.returns
unfolding steps
returns c =
    checks_as (Learned _) (by_steps _ c.if-log-ne0.false (made_log _ c.of-made.ensures c.in-Some.is)) _ c.check_steps.ensures
