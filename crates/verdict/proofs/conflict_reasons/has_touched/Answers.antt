-- `has_touched` meets its contract.
use mathlib.Core.Path.{◌∙◌}
use Rattle.verdict.proofs.conflict_reasons.has_touched.Goals as goal

pub returns : goal.returns
returns c = c.takes_part.ensures ∙ (rw c.touched_row.ensures at c.row-row.ensures) c.args.a
