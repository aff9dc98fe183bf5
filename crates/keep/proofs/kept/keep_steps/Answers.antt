-- `keep_steps` meets its contract. At each turn what is kept of the first i steps is copied.
use native.Mathlib.Omega.{arith}
use mathlib.Core.Path.{◌≡◌, refl, sym, ap, ◌∙◌}
use mathlib.Core.List.{List, ◌++◌}
use Prim.Native.Nat.{ℕ}
use Rattle.verdict.specs.Log.{steps}
use Rattle.keep.specs.Kept.{kept_step, kept as Kept-kept}
use Rattle.keep.proofs.Keeping.{kept_more}
use Rattle.keep.proofs.kept.keep_steps.Goals as goal

pub loop-i-init : goal.loop-i-init
unfolding Kept-kept
loop-i-init c = (omega arith, refl, refl)

pub loop-i-preserved : goal.loop-i-preserved
loop-i-preserved c =
    let inv = c.loop-i.invariant in
    let marks = c.args.marks.now in
    let log = c.args.log.now in (
      omega (arith, c.keep_step-n.ensures.0, inv.0),
      c.keep_step-n.auto.kept ∙ inv.1,
      c.keep_step-n.ensures.1
          ∙ ap (λ (u : List ℕ). u ++ kept_step marks log c.loop-i.i) inv.2
          ∙ sym (kept_more marks log c.loop-i.i),
    )

pub returns : goal.returns
unfolding steps
returns c =
    let inv = c.loop-i.invariant in
    let marks = c.args.marks.now in
    let log = c.args.log.now in
    let e : c.loop-i.i ≡ steps log = omega arith in
    (omega (arith, inv.0, inv.1, c.requires), inv.2 ∙ ap (λ (n : ℕ). Kept-kept marks n log) e)
