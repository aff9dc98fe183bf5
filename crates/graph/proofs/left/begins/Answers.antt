-- `begins` meets its contract.
use mathlib.Core.Path.{sym, ap, ◌∙◌}
use Rattle.words.specs.Tests.{fails}
use Rattle.words.proofs.Truth.{not_both, to_false, not_fails}
use Rattle.graph.proofs.Peel.{free→}
use Rattle.graph.proofs.Marks.{begins_by}
use Rattle.graph.proofs.left.begins.Goals as goal

pub returns-then-not-takes_part : goal.returns-then-not-takes_part
returns-then-not-takes_part c = sym (to_false _ (λ h. not_both (free→ h).is_node (sym c.takes_part.ensures ∙ c.if-not-takes_part.true)))

pub returns : goal.returns
returns c = not_fails _ ∙ ap fails c.any.ensures ∙ begins_by _ _ _ (sym c.takes_part.ensures ∙ c.if-not-takes_part.false) _ c.before-2.ensures
