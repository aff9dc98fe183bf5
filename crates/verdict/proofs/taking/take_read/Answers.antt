-- `take_read` meets its contract.
use Rattle.std.proofs.Common.{sym, ◌∙◌, arith}
use Rattle.std.proofs.lemmas.Result.{err_from_is_err_and}
use Rattle.verdict.specs.Log.{steps}
use Rattle.verdict.specs.Refusal.{step_refusal}
use Rattle.verdict.specs.Inner.Checking.{InRange}
use Rattle.verdict.proofs.Asking.{asks_read}
use Rattle.verdict.proofs.Refused.{tried_refused, tried_passed, try_last}
use Rattle.verdict.proofs.WellFormed.{else_try→}
use Rattle.verdict.proofs.taking.take_read.Goals as goal

pub first_number-requires : goal.first_number-requires
unfolding steps
first_number-requires c = let known = c.requires in (omega (arith, known.0), known.2, asks_read known.1)

pub returns-in_err-first_number : goal.returns-in_err-first_number
unfolding step_refusal
returns-in_err-first_number c =
    let p = err_from_is_err_and c.from_residual.result c.from_residual.ensures.1 in
    rw (p.1, p.2) (sym (try_last _ _ _) ∙ tried_refused _ (sym c.in_err-first_number.ensures))

pub source_number-requires : goal.source_number-requires
unfolding steps InRange
source_number-requires c =
    let known = c.requires in
    (omega (arith, known.0), known.1, (else_try→ (sym c.in_ok-first_number.ensures)).0, known.3)

pub returns-in_err-source_number : goal.returns-in_err-source_number
unfolding step_refusal
returns-in_err-source_number c =
    let p = err_from_is_err_and c.from_residual-in_err-source_number.result c.from_residual-in_err-source_number.ensures.1 in
    rw (p.1, p.2) (sym (try_last _ _ _) ∙ tried_passed _ (sym c.in_ok-first_number.ensures) ∙ sym c.in_err-source_number.ensures)

pub misses-requires : goal.misses-requires
unfolding steps InRange
misses-requires c = let known = c.requires in (omega (arith, known.0), (else_try→ (sym c.in_ok-first_number.ensures)).0, known.3)

pub returns : goal.returns
unfolding step_refusal
returns c =
    (sym (try_last _ _ _) ∙ tried_passed _ (sym c.in_ok-first_number.ensures) ∙ sym c.in_ok-source_number.ensures, c.misses.ensures)
