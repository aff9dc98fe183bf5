-- `objects_of` meets its contract.
use mathlib.Core.Path.{◌≡◌, sym, ◌∙◌}
use mathlib.Core.Logic.{⊎_elim}
use native.Mathlib.Omega.{arith}
use Rattle.words.specs.Tests.{◌is◌}
use Rattle.words.proofs.Truth.{decide, isnt→, →is, →isnt, →or_left, →or_right, or_false, provided_true, provided_false}
use Rattle.live.proofs.step.objects_of.Goals as goal

pub returns-in-2 : goal.returns-in-2
returns-in-2 c =
    let k = c.args.k in
    sym (provided_true _ _ (⊎_elim (λ e. →or_left _ e) (λ e. let d : k ≡ 2 → ⊥ = isnt→ e in →or_right _ (→is (omega arith))) (decide (k is 2))))

pub returns-in_default : goal.returns-in_default
returns-in_default c = sym (provided_false _ _ (or_false (→isnt (λ e. omega arith)) ∙ →isnt (λ e. omega arith)))

pub returns-in_default-2 : goal.returns-in_default-2
returns-in_default-2 c = sym (provided_false _ _ (or_false (→isnt (λ e. omega arith)) ∙ →isnt (λ e. omega arith)))
