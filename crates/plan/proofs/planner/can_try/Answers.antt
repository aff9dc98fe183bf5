-- `can_try` meets its contract.
use mathlib.Core.Path.{sym, ap, ◌∙◌}
use Rattle.words.specs.Tests.{fails}
use Rattle.words.proofs.Truth.{and_true, and_no_left, not_fails}
use Rattle.plan.specs.Inner.Planning.{can_try}
use Rattle.plan.proofs.MarkLaws.{marked_no, marked_yes}
use Rattle.plan.proofs.planner.can_try.Goals as goal

pub returns-then-back-t-eq0 : goal.returns-then-back-t-eq0
unfolding can_try
returns-then-back-t-eq0 c = sym (and_no_left _ (marked_no _ _ c.if-back-t-eq0.true))

pub returns : goal.returns
unfolding can_try
returns c = not_fails _ ∙ ap fails c.is_marked.ensures ∙ sym (and_true (marked_yes _ _ c.if-back-t-eq0.false))
