-- `lent_join` meets its contract.
use native.Mathlib.Omega.{arith}
use Prim.Native.Nat.{◌-◌, ◌*◌, ◌≤◌}
use lib.ListN.{length-set}
use Rattle.graph.proofs.RowLaws.{row_joined, none_joined}
use Rattle.graph.proofs.lent.lent_join.Goals as goal

pub returns-then-b-eq0 : goal.returns-then-b-eq0
returns-then-b-eq0 c = none_joined _ _ _ (λ (l : 1 ≤ c.args.b) _. omega arith)

pub returns-then-b-gt-VERTICES : goal.returns-then-b-gt-VERTICES
returns-then-b-gt-VERTICES c = none_joined _ _ _ (λ _ (h : c.args.b ≤ 128). omega arith)

pub bounds-m-i-3 : goal.bounds-m-i-3
bounds-m-i-3 c = omega (arith, length-set c.args.m.now ((c.args.b - 1) * 2) c.union.result)

pub bounds-m-i-4 : goal.bounds-m-i-4
bounds-m-i-4 c = omega (arith, length-set c.args.m.now ((c.args.b - 1) * 2) c.union.result)

pub returns : goal.returns
returns c = row_joined _ _ _ _ _ (omega arith) (omega arith) c.union.ensures c.union-2.ensures
