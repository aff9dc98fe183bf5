-- `union` meets its contract.
use mathlib.Core.Path.{refl}
use Rattle.words.specs.Tests.{◌or◌}
use Rattle.graph.proofs.TwoWords.{word_by_word}
use Rattle.graph.proofs.sets.union.Goals as goal

pub returns : goal.returns
unfolding ◌or◌
returns c = word_by_word ◌or◌ refl _ _ _ c.union.ensures c.union-2.ensures
