-- `live` meets its contract.
use Rattle.std.proofs.Common.{refl, sym, arith, length-set}
use Rattle.std.proofs.lemmas.Result.{err_from_is_err_and}
use Rattle.live.specs.LiveCall.{turned_away}
use Rattle.live.proofs.Calling.{fitting, used_few, accepted}
use Rattle.live.proofs.live.Goals as goal

pub returns-in_err-admit : goal.returns-in_err-admit
returns-in_err-admit c =
    let p = err_from_is_err_and c.from_residual.result c.from_residual.ensures.1 in
    rw (p.1, p.2) (turned_away _ _ c.in_err-admit.ensures refl refl refl)

pub bounds-state-0 : goal.bounds-state-0
bounds-state-0 c = omega (arith, (fitting _ _ _ (sym c.in_ok-admit.ensures)).state)

pub bounds-state-1 : goal.bounds-state-1
bounds-state-1 c = omega (arith, (fitting _ _ _ (sym c.in_ok-admit.ensures)).state)

pub bounds-state-2 : goal.bounds-state-2
bounds-state-2 c = omega (arith, (fitting _ _ _ (sym c.in_ok-admit.ensures)).state)

pub take_part-after-requires : goal.take_part-after-requires
take_part-after-requires c =
    let f = fitting _ _ _ (sym c.in_ok-admit.ensures) in
    (f.sized, used_few _ c.places_used.ensures, f.whole)

pub bounds-state-0-2 : goal.bounds-state-0-2
bounds-state-0-2 c = omega (arith, (fitting _ _ _ (sym c.in_ok-admit.ensures)).state)

pub bounds-state-1-2 : goal.bounds-state-1-2
bounds-state-1-2 c = simp length-set (omega (arith, (fitting _ _ _ (sym c.in_ok-admit.ensures)).state))

pub bounds-state-2-2 : goal.bounds-state-2-2
bounds-state-2-2 c = simp length-set (omega (arith, (fitting _ _ _ (sym c.in_ok-admit.ensures)).state))

pub returns : goal.returns
returns c =
    let passed = sym c.in_ok-admit.ensures in
    accepted passed (fitting _ _ _ passed).state c.places_used.ensures c.take_part-after.ensures
