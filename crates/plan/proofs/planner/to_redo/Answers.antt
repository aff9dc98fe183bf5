-- `to_redo` meets its contract.
use mathlib.Core.Path.{refl}
use Rattle.plan.proofs.Sparing.{told_so}
use Rattle.plan.proofs.Nothing.{nothing_left}
use Rattle.plan.proofs.planner.to_redo.Goals as goal

pub returns-then-is_fine : goal.returns-then-is_fine
returns-then-is_fine c =
    nothing_left _ c.requires _ refl (told_so c.is_fine.ensures c.if-is_fine.true)
