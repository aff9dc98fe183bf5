-- `stands` meets its contract.
use native.Mathlib.Omega.{arith}
use mathlib.Core.Path.{ap, ◌∙◌}
use lib.ListN.{drop, length-drop}
use lib.Seq.{take_all}
use Rattle.text.specs.Inner.Finds.{starts}
use Rattle.text.proofs.Fronts.{stands_there}
use Rattle.text.proofs.number.stands.Goals as goal

pub returns : goal.returns
returns c =
    let a = c.args in
    let n = length-drop a.at a.text.now in
    stands_there a.word.now _ _ c.starts_with.ensures.value ∙ ap (starts a.word.now) (take_all _ (drop a.at a.text.now) (omega arith))
