-- `above` meets its contract.
use mathlib.Core.Path.{refl}
use Rattle.graph.proofs.TwoWords.{above_low, above_high}
use Rattle.graph.proofs.sets.above.Goals as goal

pub returns-then-s-lt64 : goal.returns-then-s-lt64
returns-then-s-lt64 c = above_low _ _ _ c.if-s-lt64.true c.marks_from.ensures refl

pub returns : goal.returns
returns c = above_high _ _ _ c.if-s-lt64.false refl c.marks_from-2.ensures
