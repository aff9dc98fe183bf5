-- `may_name` meets its contract.
use Rattle.words.specs.Tests.{fails}
use mathlib.Core.Path.{sym, ap, ◌∙◌}
use Rattle.words.proofs.Truth.{and_true, and_no_left, not_fails}
use Rattle.plan.proofs.members.may_name.Goals as goal

pub returns-then-not-is_marked : goal.returns-then-not-is_marked
returns-then-not-is_marked c = sym (and_no_left _ (sym c.is_marked.ensures ∙ c.if-not-is_marked.true))

pub returns : goal.returns
returns c = not_fails _ ∙ ap fails c.is_marked-2.ensures ∙ sym (and_true (sym c.is_marked.ensures ∙ c.if-not-is_marked.false))
