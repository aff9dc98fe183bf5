-- `takes_part` meets its contract.
use mathlib.Core.Path.{sym, ◌∙◌}
use native.Mathlib.Omega.{arith}
use Rattle.bits.specs.Run.{bit}
use Rattle.graph.proofs.TwoWords.{by_bit}
use Rattle.verdict.proofs.edges.takes_part.Goals as goal

pub returns : goal.returns
unfolding bit
returns c = rw c.from-k.ensures at c.has_mark.ensures ∙ sym (by_bit _ _ (omega arith) (omega arith))
