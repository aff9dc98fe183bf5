-- `minus` meets its contract.
use mathlib.Core.Path.{refl}
use Rattle.words.specs.Tests.{◌and◌, fails}
use Rattle.graph.proofs.TwoWords.{word_by_word}
use Rattle.graph.proofs.sets.minus.Goals as goal

pub returns : goal.returns
unfolding ◌and◌ fails
returns c = word_by_word (λ x y. x and fails y) refl _ _ _ c.minus.ensures c.minus-2.ensures
