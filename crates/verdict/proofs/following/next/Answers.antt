-- `next` meets its contract.
use Rattle.std.proofs.Common.{sym}
use Rattle.std.proofs.lemmas.Result.{err_from_is_err_and}
use Rattle.verdict.specs.Refusal.{work_refusal, witness_refusal, order_refusal}
use Rattle.verdict.proofs.WellFormed.{else_try→}
use Rattle.verdict.proofs.Frame.{admitted, else_assoc, refused_early, refused_later, admitted_later, call_left}
use Rattle.verdict.proofs.following.next.Goals as goal

pub returns-in_err-found : goal.returns-in_err-found
unfolding work_refusal witness_refusal order_refusal
returns-in_err-found c =
    let p = err_from_is_err_and c.from_residual.result c.from_residual.ensures.1 in
    rw (p.1, p.2) (refused_early _ _ (sym (else_assoc _ _ _)) _ c.in_err-found.ensures)

pub after_order-requires : goal.after_order-requires
after_order-requires c =
    let found = c.in_ok-found.ensures in
    ((else_try→ (else_try→ (else_try→ found.0).1).1).1, found.1)

pub returns-in_err-later : goal.returns-in_err-later
unfolding work_refusal witness_refusal order_refusal
returns-in_err-later c =
    let p = err_from_is_err_and c.from_residual-in_err-later.result c.from_residual-in_err-later.ensures.1 in
    rw (p.1, p.2) (refused_later _ _ (sym (else_assoc _ _ _)) _ (admitted _ _ _ c.in_ok-found.ensures.0) c.in_err-later.ensures)

pub leave-requires : goal.leave-requires
unfolding work_refusal witness_refusal
leave-requires c = (admitted _ c.args.work.now c.args.witness.now c.in_ok-found.ensures.0).witness_size

pub returns : goal.returns
unfolding work_refusal witness_refusal order_refusal
returns c =
    let later = c.in_ok-later.ensures in
    call_left (admitted_later _ _ (sym (else_assoc _ _ _)) (admitted _ _ _ c.in_ok-found.ensures.0) later.0) later.1 c.leave.ensures
