-- `common` meets its contract.
use mathlib.Core.Path.{refl}
use Rattle.words.specs.Tests.{◌and◌}
use Rattle.graph.proofs.TwoWords.{word_by_word}
use Rattle.graph.proofs.sets.common.Goals as goal

pub returns : goal.returns
unfolding ◌and◌
returns c = word_by_word ◌and◌ refl _ _ _ c.common.ensures c.common-2.ensures
