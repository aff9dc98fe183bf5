-- `mark_after` meets its contract.
use mathlib.Core.Path.{sym}
use Rattle.words.proofs.Truth.{→is, →isnt, provided_true, provided_false}
use Rattle.plan.proofs.planner.mark_after.Goals as goal

pub returns-then-waited-eq0 : goal.returns-then-waited-eq0
returns-then-waited-eq0 c = sym (provided_true _ _ (→is c.if-waited-eq0.true))

pub returns : goal.returns
returns c = sym (provided_false _ _ (→isnt c.if-waited-eq0.false))
