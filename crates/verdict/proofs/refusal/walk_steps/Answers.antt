-- `walk_steps` meets its contract.
use Rattle.std.proofs.Common.{◌≡◌, ◌∙◌, ◌+◌, refl, sym, arith}
use Rattle.std.proofs.lemmas.Result.{err_from_is_err_and}
use Rattle.words.specs.Tests.{some}
use Rattle.words.proofs.Truth.{→or_right, or_no, some_next}
use Rattle.verdict.specs.Refusal.{tried}
use Rattle.verdict.specs.Inner.OwnReads.{misses}
use Rattle.verdict.proofs.Refused.{tried_none, tried_first}
use Rattle.verdict.proofs.refusal.walk_steps.Goals as goal
use Rattle.verdict.proofs.refusal.walk_steps.Goals.{Joined-misses, then-misses, else-misses}

-- whether one missed its own write
some_missed : (c : Joined-misses) → c.if-misses.missed ≡ some (c.loop-i.i + 1) (misses c.args.log.now)
some_missed c =
    let told = c.in_ok-misses.ensures.1.1 in
    let next = some_next c.loop-i.i (misses c.args.log.now) in
    elim c.if-misses.branch [
      | then-misses w ↦ w.missed-is ∙ sym (next ∙ →or_right _ (sym told ∙ w.if-misses.true))
      | else-misses w ↦ w.missed-is ∙ c.loop-i.invariant.4 ∙ sym (next ∙ or_no _ (sym told ∙ w.if-misses.false))
    ]

pub loop-i-init : goal.loop-i-init
unfolding tried some
loop-i-init c = let q = c.requires in (q.0, q.1, refl, q.2, refl)

pub take_step-requires : goal.take_step-requires
take_step-requires c =
    let inv = c.loop-i.invariant in
    (omega (arith, inv.0), omega (arith, inv.0, inv.1), inv.3)

pub returns-in_err-misses : goal.returns-in_err-misses
returns-in_err-misses c =
    let p = err_from_is_err_and c.from_residual.result c.from_residual.ensures.1 in
    let inv = c.loop-i.invariant in
    rw (p.1, p.2) (tried_first _ c.loop-i.i (omega (arith, inv.0)) inv.2 c.in_err-misses.ensures)

pub loop-i-preserved : goal.loop-i-preserved
loop-i-preserved c =
    let inv = c.loop-i.invariant in
    let taken = c.in_ok-misses.ensures in
    (inv.0, inv.1, tried_none _ _ inv.2 taken.0, taken.1.0, some_missed c)

pub returns : goal.returns
returns c =
    let e : c.loop-i.i ≡ c.args.n = omega arith in
    let inv = c.loop-i.invariant in
    (rw (e, inv.0) at inv.2, (rw (e, inv.0) at inv.3, rw (e, inv.0) at inv.4))
