-- `does_read` meets its contract.
use mathlib.Core.Path.{refl, ◌∙◌}
use Rattle.words.proofs.Truth.{some_same}
use Rattle.live.specs.Inner.Around.{reads_written}
use Rattle.live.proofs.around.does_read.Goals as goal

pub returns : goal.returns
unfolding reads_written
returns c = c.any_mark.ensures ∙ some_same 64 _ _ (λ x l. c.common.ensures x ∙ rw (c.reads.ensures, c.writes.ensures) refl)
