-- `admit_search` meets its contract.
use mathlib.Core.Path.{sym, ap, ◌∙◌}
use Prim.Native.Nat.{ℕ}
use native.Mathlib.Omega.{arith}
use Rattle.verdict.specs.Answers.{Refused}
use Rattle.verdict.proofs.Searching.{search_over, search_within}
use Rattle.verdict.proofs.exactness.admit_search.Goals as goal

pub returns-then-n-gt-SEARCHED : goal.returns-then-n-gt-SEARCHED
returns-then-n-gt-SEARCHED c =
    let e = c.committed_count-n.ensures in
    ap (λ (n : ℕ). Refused 13 n) e ∙ sym (search_over _ (omega (arith, e, c.if-n-gt-SEARCHED.true)))

pub returns : goal.returns
returns c = sym (search_within _ (omega (arith, c.committed_count-n.ensures, c.if-n-gt-SEARCHED.false)))
