-- `lent_row` meets its contract.
use mathlib.Core.Path.{refl, sym, ◌∙◌}
use native.Mathlib.Omega.{arith}
use Prim.Native.Nat.{◌≤◌}
use Rattle.graph.proofs.TwoWords.{no_member}
use Rattle.graph.proofs.RowLaws.{no_row, row_of}
use Rattle.graph.proofs.lent.lent_row.Goals as goal

pub returns-then-b-eq0 : goal.returns-then-b-eq0
returns-then-b-eq0 c = λ a. no_member 2 a ∙ sym (no_row _ _ (λ (l : 1 ≤ c.args.b) _. omega arith) a)

pub returns-then-b-gt-VERTICES : goal.returns-then-b-gt-VERTICES
returns-then-b-gt-VERTICES c = λ a. no_member 2 a ∙ sym (no_row _ _ (λ _ (h : c.args.b ≤ 128). omega arith) a)

pub returns : goal.returns
returns c = row_of _ _ _ (omega arith) (omega arith) refl refl
