-- `clean` meets its contract.
use Rattle.std.proofs.Common.{refl, sym}
use Rattle.std.proofs.lemmas.Result.{err_from_is_err_and}
use Rattle.verdict.specs.Refusal.{work_refusal}
use Rattle.verdict.specs.Call.{turned_away, answered}
use Rattle.verdict.proofs.WellFormed.{else_try→}
use Rattle.verdict.proofs.Frame.{work_left}
use Rattle.verdict.proofs.cleanness.clean.Goals as goal

pub returns-in_err-found : goal.returns-in_err-found
unfolding work_refusal
returns-in_err-found c =
    let p = err_from_is_err_and c.from_residual.result c.from_residual.ensures.1 in
    rw (p.1, p.2) (turned_away _ _ (sym c.in_err-found.ensures) refl refl)

pub judge_clean-requires : goal.judge_clean-requires
judge_clean-requires c =
    let found = c.in_ok-found.ensures in
    ((else_try→ found.0).1, found.1.who, found.1.first_own)

pub returns : goal.returns
unfolding work_refusal
returns c =
    let passed = c.in_ok-found.ensures.0 in
    answered c.judge_clean.result (sym passed) c.judge_clean.ensures refl (work_left _ c.args.work.now _ (else_try→ passed).0 c.clear.ensures)
