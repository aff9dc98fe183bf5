-- What the loop of `marked_above` keeps.
use mathlib.Core.Path.{◌≡◌}
use lib.ListN.{get_or}
use Rattle.words.specs.Tests.{◌below◌, ◌and◌, some}
use Rattle.bits.specs.Word.{marked}
use Rattle.bits.proofs.table.marked_above.Given as goal

abbrev pub invariant-loop-x : goal.invariant-loop-x
invariant-loop-x l = some 64 (λ x. marked l.x-iterator.0 x and l.b below get_or l.table x 0) ≡ some 64 (λ x. marked l.marks x and l.b below get_or l.table x 0)
