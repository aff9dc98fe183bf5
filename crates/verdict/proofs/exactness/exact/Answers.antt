-- `exact` meets its contract.
use Rattle.std.proofs.Common.{refl, sym}
use Rattle.std.proofs.lemmas.Result.{err_from_is_err_and}
use Rattle.verdict.specs.Refusal.{work_refusal, witness_refusal}
use Rattle.verdict.proofs.Frame.{admitted, refused_early, refused_later, admitted_later, call_left}
use Rattle.verdict.proofs.Searching.{search_few}
use Rattle.verdict.proofs.exactness.exact.Goals as goal

pub returns-in_err-found : goal.returns-in_err-found
unfolding work_refusal witness_refusal
returns-in_err-found c =
    let p = err_from_is_err_and c.from_residual.result c.from_residual.ensures.1 in
    rw (p.1, p.2) (refused_early _ _ refl _ c.in_err-found.ensures)

pub returns-in_err-admit_search : goal.returns-in_err-admit_search
unfolding work_refusal witness_refusal
returns-in_err-admit_search c =
    let p = err_from_is_err_and c.from_residual-in_err-admit_search.result c.from_residual-in_err-admit_search.ensures.1 in
    rw (p.1, p.2) (refused_later _ _ refl _ (admitted _ _ _ c.in_ok-found.ensures.0) (sym c.in_err-admit_search.ensures))

pub exact_learned-requires : goal.exact_learned-requires
unfolding work_refusal witness_refusal
exact_learned-requires c =
    ((admitted _ c.args.work.now c.args.witness.now c.in_ok-found.ensures.0).well, search_few _ (sym c.in_ok-admit_search.ensures), c.in_ok-found.ensures.1)

pub leave-requires : goal.leave-requires
unfolding work_refusal witness_refusal
leave-requires c = (admitted _ c.args.work.now c.args.witness.now c.in_ok-found.ensures.0).witness_size

pub returns : goal.returns
unfolding work_refusal witness_refusal
returns c =
    call_left (admitted_later _ _ refl (admitted _ _ _ c.in_ok-found.ensures.0) (sym c.in_ok-admit_search.ensures)) c.exact_learned.ensures c.leave.ensures
