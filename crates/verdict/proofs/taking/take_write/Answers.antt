-- `take_write` meets its contract.
use Rattle.std.proofs.Common.{sym, ◌∙◌, arith}
use Rattle.std.proofs.lemmas.Result.{err_from_is_err_and}
use Rattle.verdict.specs.Log.{steps}
use Rattle.verdict.proofs.Asking.{asks_write}
use Rattle.verdict.proofs.Numbers.{no_source}
use Rattle.verdict.proofs.WellFormed.{step_within}
use Rattle.verdict.proofs.taking.take_write.Goals as goal

pub first_number-requires : goal.first_number-requires
unfolding steps
first_number-requires c = let known = c.requires in (omega (arith, known.0), known.2, asks_write known.1)

pub returns-in_err-first_number : goal.returns-in_err-first_number
returns-in_err-first_number c =
    let p = err_from_is_err_and c.from_residual.result c.from_residual.ensures.1 in
    rw (p.1, p.2) (sym (c.in_err-first_number.ensures ∙ no_source _ _ (λ e. omega (arith, e, c.requires.1))))

pub note_version-requires : goal.note_version-requires
unfolding steps
note_version-requires c =
    let known = c.requires in
    let passed = sym (c.in_ok-first_number.ensures ∙ no_source _ _ (λ e. omega (arith, e, known.1))) in
    (omega (arith, known.0), step_within _ _ passed, known.3, known.4)

pub returns : goal.returns
returns c =
    (sym (c.in_ok-first_number.ensures ∙ no_source _ _ (λ e. omega (arith, e, c.requires.1))), c.note_version.ensures)
