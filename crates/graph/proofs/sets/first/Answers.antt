-- `first` meets its contract.
use mathlib.Core.Path.{sym, ap, ◌∙◌}
use Prim.Native.Nat.{ℕ, ◌+◌}
use native.Mathlib.Omega.{arith}
use Rattle.words.proofs.Truth.{lowest_bound}
use Rattle.bits.specs.Word.{marked}
use lib.ListN.{get_or}
use Rattle.graph.proofs.TwoWords.{any_low, any_high, first_low, first_high}
use Rattle.graph.proofs.SetWalks.{lowest_of}
use Rattle.graph.proofs.sets.first.Goals as goal

pub overflow_add-result : goal.overflow_add-result
overflow_add-result c =
    omega (arith, c.lowest_mark.ensures, lowest_bound {n = 64} (marked (get_or c.args.those 0 0)))

pub returns-then-any_mark : goal.returns-then-any_mark
returns-then-any_mark c =
    let h = sym c.any_mark.ensures ∙ c.if-any_mark.true in
    lowest_of _ _ (any_low _ h) (ap (λ (k : ℕ). k + 1) c.lowest_mark.ensures ∙ first_low _ h)

pub overflow_add-result-then-any_mark-2 : goal.overflow_add-result-then-any_mark-2
overflow_add-result-then-any_mark-2 c =
    omega (arith, c.lowest_mark-then-any_mark-2.ensures, lowest_bound {n = 64} (marked (get_or c.args.those 1 0)))

pub returns-then-any_mark-2 : goal.returns-then-any_mark-2
returns-then-any_mark-2 c =
    let n = sym c.any_mark.ensures ∙ c.if-any_mark.false in
    lowest_of _ _ (sym (any_high _ n) ∙ sym c.any_mark-2.ensures ∙ c.if-any_mark-2.true) (ap (λ (k : ℕ). k + 65) c.lowest_mark-then-any_mark-2.ensures ∙ first_high _ n)

pub returns : goal.returns
returns c = sym (any_high _ (sym c.any_mark.ensures ∙ c.if-any_mark.false)) ∙ sym c.any_mark-2.ensures ∙ c.if-any_mark-2.false
