-- `with_source` meets its contract.
use mathlib.Core.Path.{◌≡◌, sym, ◌∙◌}
use Prim.Native.Nat.{suc}
use native.Mathlib.Omega.{arith}
use native.Mathlib.Numerals.{add-one}
use Rattle.verdict.specs.Inner.Placing.{barred, needing}
use Rattle.words.proofs.Truth.{→is, →isnt, provided_true, provided_false}
use Rattle.verdict.proofs.search.with_source.Goals as goal

pub returns-then-e-eq0 : goal.returns-then-e-eq0
unfolding needing
returns-then-e-eq0 c = add-one _ ∙ sym (provided_true _ _ (→is c.if-e-eq0.true))

pub returns-then-e-s : goal.returns-then-e-s
unfolding needing
returns-then-e-s c = sym (provided_false _ _ (→isnt c.if-e-eq0.false) ∙ provided_true _ _ (→is (c.if-e-s.true ∙ add-one _)))

pub returns : goal.returns
unfolding needing barred
returns c = sym (provided_false _ _ (→isnt c.if-e-eq0.false) ∙ provided_false _ _ (→isnt (λ (k : c.args.e ≡ suc c.args.s). c.if-e-s.false (omega arith))))
