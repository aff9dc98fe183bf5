-- `judge` meets its contract.
use Rattle.std.proofs.Common.{refl}
use Rattle.std.proofs.lemmas.Result.{err_from_is_err_and}
use Rattle.verdict.specs.Judgement.{refused, judged}
use Rattle.verdict.proofs.all_verdicts.judge.Goals as goal

pub returns-in_err-found : goal.returns-in_err-found
returns-in_err-found c =
    let p = err_from_is_err_and c.from_residual.result c.from_residual.ensures.1 in
    rw (p.1, p.2) (refused _ _ c.in_err-found.ensures refl)

pub returns : goal.returns
returns c = judged _ c.in_ok-found.ensures.0 refl c.judge_all.ensures
