-- `check_steps` meets its contract.
use Rattle.std.proofs.Common.{◌∙◌, refl, sym, arith}
use Rattle.std.proofs.lemmas.Result.{err_from_is_err_and}
use Rattle.verdict.proofs.Refused.{tried_refused, tried_passed}
use Rattle.verdict.proofs.Lives.{open_lived}
use Rattle.verdict.proofs.Noting.{noted_none, who_learned, all_learned}
use Rattle.verdict.proofs.refusal.check_steps.Goals as goal

pub overflow_cast-none : goal.overflow_cast-none
overflow_cast-none c = omega (arith, c.requires.1)

pub walk_steps-requires : goal.walk_steps-requires
walk_steps-requires c = let known = c.requires in (known.0, known.1, noted_none _ 129 _ refl known.0)

pub returns-in_err-missed : goal.returns-in_err-missed
returns-in_err-missed c =
    let p = err_from_is_err_and c.from_residual.result c.from_residual.ensures.1 in
    rw (p.1, p.2) (tried_refused _ (rw c.requires.0 c.in_err-missed.ensures))

pub own_fault-own-requires : goal.own_fault-own-requires
own_fault-own-requires c =
    let walked = c.in_ok-missed.ensures in
    (c.requires.0, rw c.requires.0 walked.0, who_learned _ walked.1.0, walked.1.1)

pub returns-in_err-check_open : goal.returns-in_err-check_open
returns-in_err-check_open c =
    let p = err_from_is_err_and c.from_residual-in_err-check_open.result c.from_residual-in_err-check_open.ensures.1 in
    let walked = c.in_ok-missed.ensures in
    rw (p.1, p.2) (tried_passed _ (rw c.requires.0 walked.0) ∙ sym (open_lived _ walked.1.0.has_lived) ∙ sym c.in_err-check_open.ensures)

pub returns : goal.returns
returns c =
    let walked = c.in_ok-missed.ensures in (
      tried_passed _ (rw c.requires.0 walked.0) ∙ sym (open_lived _ walked.1.0.has_lived) ∙ sym c.in_ok-check_open.ensures,
      all_learned _ walked.1.0 refl c.own_fault-own.ensures walked.0,
    )
