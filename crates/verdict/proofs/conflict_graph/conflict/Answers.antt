-- `conflict` meets its contract.
use Rattle.std.proofs.Common.{refl, sym}
use Rattle.std.proofs.lemmas.Result.{err_from_is_err_and}
use Rattle.verdict.specs.Refusal.{work_refusal, witness_refusal}
use Rattle.verdict.specs.Call.{turned_away}
use Rattle.verdict.proofs.Frame.{admitted, call_left}
use Rattle.verdict.proofs.conflict_graph.conflict.Goals as goal

pub returns-in_err-found : goal.returns-in_err-found
unfolding work_refusal witness_refusal
returns-in_err-found c =
    let p = err_from_is_err_and c.from_residual.result c.from_residual.ensures.1 in
    rw (p.1, p.2) (turned_away _ _ (sym c.in_err-found.ensures) refl refl)

pub judge_conflict-requires : goal.judge_conflict-requires
unfolding work_refusal witness_refusal
judge_conflict-requires c =
    ((admitted _ c.args.work.now c.args.witness.now c.in_ok-found.ensures.0).well, c.in_ok-found.ensures.1.who)

pub leave-requires : goal.leave-requires
unfolding work_refusal witness_refusal
leave-requires c = (admitted _ c.args.work.now c.args.witness.now c.in_ok-found.ensures.0).witness_size

pub returns : goal.returns
unfolding work_refusal witness_refusal
returns c = call_left (admitted _ _ _ c.in_ok-found.ensures.0) c.judge_conflict.ensures c.leave.ensures
