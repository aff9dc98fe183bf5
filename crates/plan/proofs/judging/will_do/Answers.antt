-- `will_do` meets its contract.
use Rattle.plan.specs.Inner.Trials.{yes, no}
use Rattle.plan.proofs.Sparing.{told_so, told_not}
use Rattle.plan.proofs.judging.will_do.Goals as goal

pub is_fine-requires : goal.is_fine-requires
is_fine-requires c = (c.requires.1, c.requires.0)

pub returns-then-not-is_fine : goal.returns-then-not-is_fine
returns-then-not-is_fine c = no (λ w. told_not c.is_fine.ensures c.if-not-is_fine.true w.fine)

pub all_needed-requires : goal.all_needed-requires
all_needed-requires c = c.requires

pub returns-then-not-all_needed : goal.returns-then-not-all_needed
returns-then-not-all_needed c = no (λ w. told_not c.all_needed.ensures c.if-not-all_needed.true w.needed)

pub returns : goal.returns
returns c = yes (record { fine = told_so c.is_fine.ensures c.if-not-is_fine.false; needed = told_so c.all_needed.ensures c.if-not-all_needed.false })
