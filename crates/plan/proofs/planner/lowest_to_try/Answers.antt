-- `lowest_to_try` meets its contract.
use Rattle.std.proofs.Common.{◌≡◌, ◌∙◌, refl, sym, arith}
use Rattle.words.specs.Tests.{some}
use Rattle.words.proofs.Truth.{none_next, lowest_found}
use Rattle.plan.specs.Inner.Marks.{table}
use Rattle.plan.proofs.planner.lowest_to_try.Goals as goal

pub loop-t-init : goal.loop-t-init
unfolding some
loop-t-init c = refl

pub can_try-requires : goal.can_try-requires
can_try-requires c = (c.requires.0, c.requires.1, omega arith)

pub returns-then-can_try : goal.returns-then-can_try
returns-then-can_try c = (omega arith, sym (lowest_found _ _ (omega arith) (sym c.can_try.ensures ∙ c.if-can_try.true) c.loop-t.invariant))

pub loop-t-preserved : goal.loop-t-preserved
loop-t-preserved c = none_next _ _ c.loop-t.invariant (sym c.can_try.ensures ∙ c.if-can_try.false)

pub returns : goal.returns
returns c = let e : c.loop-t.t ≡ table = omega arith in rw e at c.loop-t.invariant
