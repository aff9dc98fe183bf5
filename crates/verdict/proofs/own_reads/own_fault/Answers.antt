-- `own_fault` meets its contract.
use mathlib.Core.Path.{sym, ◌∙◌}
use Rattle.verdict.proofs.OwnReads.{none_missed}
use Rattle.verdict.proofs.own_reads.own_fault.Goals as goal

pub returns : goal.returns
returns c = let known = c.requires in known.0 ∙ sym (none_missed _ (sym known.3 ∙ c.if-missed.false))
