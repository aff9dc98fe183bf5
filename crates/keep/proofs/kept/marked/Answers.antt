-- `marked` meets its contract.
use native.Mathlib.Omega.{arith}
use mathlib.Core.Path.{sym, ◌∙◌}
use Rattle.words.specs.Tests.{◌is◌, ◌upto◌}
use Rattle.words.proofs.Truth.{→upto, →not_upto, and_true, and_no_left, not_fails}
use Rattle.keep.specs.Kept.{marked}
use Rattle.keep.proofs.kept.marked.Goals as goal

pub returns-then-t-le-LIMIT : goal.returns-then-t-le-LIMIT
unfolding marked ◌is◌
returns-then-t-le-LIMIT c = rw c.from.ensures (not_fails _ ∙ sym (and_true (→upto (omega arith))))

pub returns-else-t-le-LIMIT : goal.returns-else-t-le-LIMIT
unfolding marked ◌upto◌
returns-else-t-le-LIMIT c = →not_upto (omega arith) ∙ sym (and_no_left _ (→not_upto (omega arith)))
