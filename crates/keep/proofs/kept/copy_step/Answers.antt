-- `copy_step` meets its contract: the four numbers of the step are copied.
use native.Mathlib.Omega.{arith}
use mathlib.Core.Path.{◌≡◌, sym, ap, ◌∙◌}
use mathlib.Core.List.{List, ◌++◌}
use Prim.Native.Nat.{ℕ, ◌+◌, ◌-◌, ◌*◌}
use lib.ListN.{length, take}
use Rattle.std.proofs.lemmas.Slice.{take-put_mid}
use Rattle.keep.specs.Kept.{step}
use Rattle.keep.proofs.Keeping.{step_stands}
use Rattle.keep.proofs.kept.copy_step.Goals as goal

pub returns : goal.returns
unfolding step
returns c =
    let a = c.args in
    let e : c.copy_from_slice.new.self ≡ _ = c.copy_from_slice.ensures.after ∙ step_stands a.log.now a.i (4 * a.i + 4 - 4 * a.i) (omega arith) c.requires.0 in
    take-put_mid a.at (a.at + 4 - a.at) a.kept.now c.copy_from_slice.new.self (a.at + 4) (ap (λ (n : ℕ). a.at + n) (sym (ap length e))) (omega (arith, c.requires.1))
    ∙ ap (λ (u : List ℕ). take a.at a.kept.now ++ u) e
