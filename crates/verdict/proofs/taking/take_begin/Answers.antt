-- `take_begin` meets its contract.
use Rattle.std.proofs.Common.{sym, ◌∙◌, arith}
use Rattle.std.proofs.lemmas.Result.{err_from_is_err_and}
use Rattle.verdict.specs.Log.{steps}
use Rattle.verdict.proofs.Asking.{asks_begin}
use Rattle.verdict.proofs.Noting.{begin_lives, begin_noted}
use Rattle.verdict.proofs.Numbers.{no_source}
use Rattle.verdict.proofs.WellFormed.{step_within, tx_within}
use Rattle.verdict.proofs.taking.take_begin.Goals as goal

pub first_number-requires : goal.first_number-requires
unfolding steps
first_number-requires c =
    let known = c.requires in
    (omega (arith, known.0), known.3, asks_begin known.2)

pub returns-in_err-first_number : goal.returns-in_err-first_number
returns-in_err-first_number c =
    let p = err_from_is_err_and c.from_residual.result c.from_residual.ensures.1 in
    rw (p.1, p.2) (sym (c.in_err-first_number.ensures ∙ no_source _ _ (λ e. omega (arith, e, c.requires.2))))

pub step_at-step-requires : goal.step_at-step-requires
unfolding steps
step_at-step-requires c = omega (arith, c.requires.0)

pub bounds-lives-t : goal.bounds-lives-t
bounds-lives-t c =
    let passed = sym (c.in_ok-first_number.ensures ∙ no_source _ _ (λ e. omega (arith, e, c.requires.2))) in
    omega (arith, c.from-t.ensures, c.step_at-step.ensures.tx_is, (tx_within _ _ (step_within _ _ passed)).1)

pub bounds-begins-t : goal.bounds-begins-t
bounds-begins-t c =
    let passed = sym (c.in_ok-first_number.ensures ∙ no_source _ _ (λ e. omega (arith, e, c.requires.2))) in
    omega (arith, c.from-t.ensures, c.step_at-step.ensures.tx_is, (tx_within _ _ (step_within _ _ passed)).1)

pub returns : goal.returns
returns c =
    let known = c.requires in
    let passed = sym (c.in_ok-first_number.ensures ∙ no_source _ _ (λ e. omega (arith, e, c.requires.2))) in
    let tx_is = c.from-t.ensures ∙ c.step_at-step.ensures.tx_is in
    (passed, (rw tx_is (begin_lives _ _ passed known.2 known.3), rw tx_is (begin_noted _ _ passed known.2 known.4)))
