-- `join_one` meets its contract.
use mathlib.Core.Path.{sym, ◌∙◌}
use Rattle.live.proofs.AroundLaws.{joined_one, joined_none}
use Rattle.live.proofs.around.join_one.Goals as goal

pub returns-then-takes_part : goal.returns-then-takes_part
returns-then-takes_part c = joined_one c.requires (sym c.takes_part.ensures ∙ c.if-takes_part.true) c.lent_join.ensures

pub returns-else-takes_part : goal.returns-else-takes_part
returns-else-takes_part c = joined_none (sym c.takes_part.ensures ∙ c.if-takes_part.false)
