-- `around` meets its contract.
use mathlib.Core.Path.{sym, ◌∙◌}
use Rattle.words.proofs.Truth.{to_false}
use Rattle.graph.proofs.Marks.{no_loop}
use Rattle.graph.proofs.Far.{far_brief, far_sunk}
use Rattle.graph.proofs.Layers.{around_none}
use Rattle.graph.proofs.cycle.around.Goals as goal

pub returns-then-limit-le1 : goal.returns-then-limit-le1
returns-then-limit-le1 c =
    around_none _ _ _ _ c.requires.0 (sym (far_brief _ _ _ (to_false _ (no_loop 128 _ _ _)) c.if-limit-le1.true))

pub returns-then-not-takes_part : goal.returns-then-not-takes_part
returns-then-not-takes_part c =
    around_none _ _ _ _ c.requires.0 (sym (far_sunk _ _ _ (to_false _ (no_loop 128 _ _ _)) (sym (c.requires.4 _) ∙ sym c.takes_part.ensures ∙ c.if-not-takes_part.true)))
