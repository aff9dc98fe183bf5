-- `admit_witness` meets its contract.
use Rattle.std.proofs.Common.{◌∙◌}
use Rattle.words.proofs.Truth.{→fails, →not_fails, →is, →isnt}
use Rattle.verdict.specs.Inner.Checking.{Learned}
use Rattle.verdict.proofs.Examining.{checks_as}
use Rattle.verdict.proofs.Refused.{first_yes, first_no}
use Rattle.verdict.proofs.refusal.admit_witness.Goals as goal

pub returns-then-work-ne-WORK : goal.returns-then-work-ne-WORK
returns-then-work-ne-WORK c = first_yes 12 0 _ (→fails (→isnt c.if-work-ne-WORK.true))

pub returns-then-witness-ne-WITNESS : goal.returns-then-witness-ne-WITNESS
returns-then-witness-ne-WITNESS c =
    first_no 12 0 _ (→not_fails (→is c.if-work-ne-WORK.false)) ∙ first_yes 12 0 _ (→fails (→isnt c.if-witness-ne-WITNESS.true))

pub returns : goal.returns
returns c =
    checks_as (Learned _) (first_no 12 0 _ (→not_fails (→is c.if-work-ne-WORK.false)) ∙ first_no 12 0 _ (→not_fails (→is c.if-witness-ne-WITNESS.false))) _ c.examine.ensures
