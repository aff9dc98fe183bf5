-- `accepts` meets its contract.
use Rattle.std.proofs.Common.{refl, sym}
use Rattle.std.proofs.lemmas.Result.{err_from_is_err_and}
use Rattle.verdict.specs.Refusal.{work_refusal}
use Rattle.verdict.specs.Answers.{Passed}
use Rattle.verdict.specs.Call.{turned_away, answered}
use Rattle.verdict.proofs.Frame.{work_left}
use Rattle.plan.specs.Proposal.{length_refusal}
use Rattle.plan.proofs.Calling.{refused_early, all_passed, then_tried, judged_proposal}
use Rattle.plan.proofs.judging.accepts.Goals as goal

pub returns-in_err-admit : goal.returns-in_err-admit
unfolding work_refusal length_refusal
returns-in_err-admit c =
    let p = err_from_is_err_and c.from_residual.result c.from_residual.ensures.1 in
    rw (p.1, p.2) (turned_away _ _ (refused_early _ _ _ _ (sym c.in_err-admit.ensures)) refl refl)

pub admit_members-requires : goal.admit_members-requires
unfolding work_refusal length_refusal
admit_members-requires c = (all_passed _ _ _ Passed (sym c.in_ok-admit.ensures)).2

pub returns-in_err-marks : goal.returns-in_err-marks
unfolding work_refusal length_refusal
returns-in_err-marks c =
    let p = err_from_is_err_and c.from_residual-in_err-marks.result c.from_residual-in_err-marks.ensures.1 in
    rw (p.1, p.2) (turned_away _ _ (then_tried _ _ _ _ (sym c.in_ok-admit.ensures) c.in_err-marks.ensures) refl refl)

pub will_do-requires : goal.will_do-requires
unfolding work_refusal length_refusal
will_do-requires c = ((all_passed _ _ _ Passed (sym c.in_ok-admit.ensures)).2, c.in_ok-marks.ensures.1)

pub returns : goal.returns
unfolding work_refusal length_refusal
returns c =
    let found = c.in_ok-marks.ensures in
    answered c.will_do.result (then_tried _ _ _ _ (sym c.in_ok-admit.ensures) found.0) (judged_proposal _ found.2 c.will_do.ensures) refl
    (work_left _ c.args.work.now _ (all_passed _ _ _ Passed (sym c.in_ok-admit.ensures)).0 c.clear.ensures)
