-- `keep_step` meets its contract: the step is copied, or left out.
use native.Mathlib.Omega.{arith}
use mathlib.Core.Path.{sym, ap, ◌∙◌}
use mathlib.Core.List.{List, ◌++◌, append-nil}
use Prim.Native.Nat.{ℕ}
use lib.ListN.{take}
use Rattle.verdict.specs.Log.{tx}
use Rattle.keep.proofs.Keeping.{keeps_it, keeps_not}
use Rattle.keep.proofs.kept.keep_step.Goals as goal

pub returns-then-not-keeps : goal.returns-then-not-keeps
unfolding tx
returns-then-not-keeps c =
    let a = c.args in
    let left = keeps_not a.marks.now a.log.now a.i (sym c.marked-keeps.ensures ∙ c.if-not-keeps.true) in
    (omega arith, sym (append-nil _) ∙ ap (λ (u : List ℕ). take a.n a.kept.now ++ u) (sym left))

pub returns : goal.returns
unfolding tx
returns c =
    let a = c.args in
    let kept = keeps_it a.marks.now a.log.now a.i (sym c.marked-keeps.ensures ∙ c.if-not-keeps.false) in
    (omega arith, c.copy_step.ensures ∙ ap (λ (u : List ℕ). take a.n a.kept.now ++ u) (sym kept))
