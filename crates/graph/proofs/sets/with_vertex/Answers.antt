-- `with_vertex` meets its contract.
use Prim.Native.Nat.{◌≤◌}
use native.Mathlib.Omega.{arith}
use borrow.Author.Rules.{rules}
use Rattle.graph.proofs.TwoWords.{with_low, with_high, none_with}
use Rattle.graph.proofs.sets.with_vertex.Goals as goal

pub returns-then-v-eq0 : goal.returns-then-v-eq0
returns-then-v-eq0 c = none_with _ _ (λ (l : 1 ≤ c.args.v) _. omega arith)

pub returns-then-v-gt-VERTICES : goal.returns-then-v-gt-VERTICES
returns-then-v-gt-VERTICES c = none_with _ _ (λ _ (h : c.args.v ≤ 128). omega arith)

pub returns-then-v-le64 : goal.returns-then-v-le64
returns-then-v-le64 c = with_low _ _ (search rules) (omega arith) (omega arith) c.with_mark.ensures

pub returns : goal.returns
returns c = with_high _ _ (search rules) (omega arith) (omega arith) c.with_mark-2.ensures
