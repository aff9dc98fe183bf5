-- `admit` meets its contract.
use Rattle.words.proofs.Truth.{→fails, →not_fails, →is, →isnt}
use Rattle.verdict.specs.Inner.Checking.{Learned}
use Rattle.verdict.proofs.Examining.{checks_as}
use Rattle.verdict.proofs.Refused.{first_yes, first_no}
use Rattle.verdict.proofs.refusal.admit.Goals as goal

pub returns-then-work-ne-WORK : goal.returns-then-work-ne-WORK
returns-then-work-ne-WORK c = first_yes 12 0 _ (→fails (→isnt c.if-work-ne-WORK.true))

pub returns : goal.returns
returns c = checks_as (Learned _) (first_no 12 0 _ (→not_fails (→is c.if-work-ne-WORK.false))) _ c.examine.ensures
