-- `takes_part` meets its contract.
use mathlib.Core.Path.{sym, ◌∙◌}
use native.Mathlib.Omega.{arith}
use Prim.Native.Nat.{◌≤◌}
use Rattle.bits.specs.Run.{bit}
use Rattle.graph.proofs.TwoWords.{no_vertex, by_bit}
use Rattle.graph.proofs.sets.takes_part.Goals as goal

pub returns-then-v-eq0 : goal.returns-then-v-eq0
returns-then-v-eq0 c = sym (no_vertex _ _ (λ (l : 1 ≤ c.args.v) _. omega arith))

pub returns-then-v-gt-VERTICES : goal.returns-then-v-gt-VERTICES
returns-then-v-gt-VERTICES c = sym (no_vertex _ _ (λ _ (h : c.args.v ≤ 128). omega arith))

pub returns : goal.returns
unfolding bit
returns c = c.has_mark.ensures ∙ sym (by_bit _ _ (omega arith) (omega arith))
