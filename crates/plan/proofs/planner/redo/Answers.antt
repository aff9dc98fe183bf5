-- `redo` meets its contract.
use Rattle.std.proofs.Common.{refl, sym, ap, ◌∙◌}
use Rattle.std.proofs.lemmas.Result.{err_from_is_err_and}
use Rattle.words.specs.Lists.{zeros}
use Rattle.verdict.specs.Refusal.{work_refusal}
use Rattle.verdict.specs.Answers.{Passed}
use Rattle.verdict.specs.Call.{turned_away}
use Rattle.plan.specs.Proposal.{length_refusal}
use Rattle.plan.proofs.Calling.{all_passed, proposal_length, redone}
use Rattle.plan.proofs.planner.redo.Goals as goal

pub returns-in_err-admit : goal.returns-in_err-admit
unfolding work_refusal length_refusal
returns-in_err-admit c =
    let p = err_from_is_err_and c.from_residual.result c.from_residual.ensures.1 in
    rw (p.1, p.2) (turned_away _ _ c.in_err-admit.ensures refl refl)

pub to_redo-marks-requires : goal.to_redo-marks-requires
unfolding work_refusal length_refusal
to_redo-marks-requires c = (all_passed _ _ _ Passed (sym c.in_ok-admit.ensures)).2

pub lay_members-requires : goal.lay_members-requires
unfolding work_refusal length_refusal
lay_members-requires c =
    let planned = c.to_redo-marks.ensures in
    (planned.size, planned.none_0, c.clear_proposal.ensures ∙ ap zeros (proposal_length c.args.proposal.now (all_passed _ _ _ Passed (sym c.in_ok-admit.ensures)).1))

pub returns : goal.returns
unfolding work_refusal length_refusal
returns c =
    let p = all_passed _ _ _ Passed (sym c.in_ok-admit.ensures) in
    redone _ p.0 p.1 p.2 c.to_redo-marks.ensures c.clear.ensures c.lay_members.ensures
