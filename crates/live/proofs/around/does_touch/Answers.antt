-- `does_touch` meets its contract.
use mathlib.Core.Path.{refl, ◌∙◌}
use Rattle.words.proofs.Truth.{some_same}
use Rattle.live.specs.Inner.Around.{writes_touched}
use Rattle.live.proofs.around.does_touch.Goals as goal

pub returns : goal.returns
unfolding writes_touched
returns c =
    c.any_mark.ensures ∙ some_same 64 _ _ (λ x l. c.common.ensures x ∙ rw (c.union-touched.ensures x, c.writes.ensures, c.reads.ensures, c.writes-2.ensures) refl)
