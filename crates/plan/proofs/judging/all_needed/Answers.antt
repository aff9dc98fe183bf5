-- `all_needed` meets its contract. At each turn none of the first t can be spared.
use Rattle.std.proofs.Common.{ℕ, ◌<◌, arith}
use Rattle.plan.specs.Inner.Trials.{so, not_so}
use Rattle.plan.proofs.Sparing.{told_so, told_not, none_more, none_all}
use Rattle.plan.proofs.judging.all_needed.Goals as goal

pub loop-t-init : goal.loop-t-init
loop-t-init c = λ (u : ℕ) (h : u < 0). absurd (omega arith)

pub can_spare-requires : goal.can_spare-requires
can_spare-requires c = c.requires

pub returns-then-can_spare : goal.returns-then-can_spare
returns-then-can_spare c = let found = told_so c.can_spare.ensures c.if-can_spare.true in not_so (λ f. f _ found.0 found.1)

pub loop-t-preserved : goal.loop-t-preserved
loop-t-preserved c = none_more _ _ _ c.loop-t.invariant (told_not c.can_spare.ensures c.if-can_spare.false)

pub returns : goal.returns
returns c = so (none_all _ _ c.requires.1 _ (omega arith) c.loop-t.invariant)
