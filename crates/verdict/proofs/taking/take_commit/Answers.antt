-- `take_commit` meets its contract.
use Rattle.std.proofs.Common.{◌∙◌, arith, inl}
use Rattle.verdict.specs.Log.{steps}
use Rattle.verdict.proofs.Noting.{commit_noted}
use Rattle.verdict.proofs.WellFormed.{step_within, tx_within}
use Rattle.verdict.proofs.taking.take_commit.Goals as goal

pub take_end-requires : goal.take_end-requires
take_end-requires c = let known = c.requires in (known.0, inl known.2, known.3)

pub step_at-step-requires : goal.step_at-step-requires
unfolding steps
step_at-step-requires c = omega (arith, c.requires.0)

pub bounds-commits-t : goal.bounds-commits-t
bounds-commits-t c =
    omega (arith, c.from-t.ensures, c.step_at-step.ensures.tx_is, (tx_within _ _ (step_within _ _ c.in_ok-take_end.ensures.0)).1)

pub bounds-earlier-t : goal.bounds-earlier-t
bounds-earlier-t c =
    omega (arith, c.from-t.ensures, c.step_at-step.ensures.tx_is, (tx_within _ _ (step_within _ _ c.in_ok-take_end.ensures.0)).1)

pub overflow_cast-earlier : goal.overflow_cast-earlier
overflow_cast-earlier c =
    omega (arith, c.from-t.ensures, c.step_at-step.ensures.tx_is, (tx_within _ _ (step_within _ _ c.in_ok-take_end.ensures.0)).1)

pub returns : goal.returns
returns c =
    let known = c.requires in
    let ended = c.in_ok-take_end.ensures in
    let tx_is = c.from-t.ensures ∙ c.step_at-step.ensures.tx_is in
    (ended.0, (ended.1, rw tx_is (commit_noted _ _ ended.0 known.2 known.4 (rw tx_is at c.with_vertex.ensures))))
