-- `admit` meets its contract.
use Rattle.std.proofs.Common.{sym, ◌∙◌}
use Rattle.words.proofs.Truth.{→fails, →not_fails, →is, →isnt}
use Rattle.verdict.proofs.Refused.{first_yes, first_no}
use Rattle.plan.proofs.refusal.admit.Goals as goal

pub returns-then-work-ne-WORK : goal.returns-then-work-ne-WORK
returns-then-work-ne-WORK c = sym (first_yes 12 0 _ (→fails (→isnt c.if-work-ne-WORK.true)))

pub returns-then-proposal-ne-COUNT : goal.returns-then-proposal-ne-COUNT
returns-then-proposal-ne-COUNT c = sym (first_no 12 0 _ (→not_fails (→is c.if-work-ne-WORK.false)) ∙ first_yes 12 0 _ (→fails (→isnt c.if-proposal-ne-COUNT.true)))

pub returns : goal.returns
returns c = c.check.ensures ∙ sym (first_no 12 0 _ (→not_fails (→is c.if-work-ne-WORK.false)) ∙ first_no 12 0 _ (→not_fails (→is c.if-proposal-ne-COUNT.false)))
