-- `take_end` meets its contract.
use Rattle.std.proofs.Common.{sym, ◌∙◌, arith, ⊎_elim}
use Rattle.std.proofs.lemmas.Result.{err_from_is_err_and}
use Rattle.verdict.specs.Log.{steps}
use Rattle.verdict.proofs.Asking.{asks_end}
use Rattle.verdict.proofs.Noting.{end_lives}
use Rattle.verdict.proofs.Numbers.{no_source}
use Rattle.verdict.proofs.WellFormed.{step_within, tx_within}
use Rattle.verdict.proofs.taking.take_end.Goals as goal

pub first_number-requires : goal.first_number-requires
unfolding steps
first_number-requires c =
    let known = c.requires in
    (omega (arith, known.0), known.2, asks_end known.1)

pub returns-in_err-first_number : goal.returns-in_err-first_number
returns-in_err-first_number c =
    let p = err_from_is_err_and c.from_residual.result c.from_residual.ensures.1 in
    rw (p.1, p.2) (sym (c.in_err-first_number.ensures ∙ no_source _ _ (λ e. ⊎_elim (λ k. omega (arith, e, k)) (λ k. omega (arith, e, k)) c.requires.1)))

pub step_at-step-requires : goal.step_at-step-requires
unfolding steps
step_at-step-requires c = omega (arith, c.requires.0)

pub bounds-lives-t : goal.bounds-lives-t
bounds-lives-t c =
    let passed = sym (c.in_ok-first_number.ensures ∙ no_source _ _ (λ e. ⊎_elim (λ k. omega (arith, e, k)) (λ k. omega (arith, e, k)) c.requires.1)) in
    omega (arith, c.from-t.ensures, c.step_at-step.ensures.tx_is, (tx_within _ _ (step_within _ _ passed)).1)

pub returns : goal.returns
returns c =
    let known = c.requires in
    let passed = sym (c.in_ok-first_number.ensures ∙ no_source _ _ (λ e. ⊎_elim (λ k. omega (arith, e, k)) (λ k. omega (arith, e, k)) known.1)) in
    (passed, rw (c.from-t.ensures ∙ c.step_at-step.ensures.tx_is) (end_lives _ _ passed known.1 known.2))
