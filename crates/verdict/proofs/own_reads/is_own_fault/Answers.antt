-- `is_own_fault` meets its contract.
use mathlib.Core.Path.{sym, ◌∙◌}
use native.Mathlib.Omega.{arith}
use Rattle.verdict.proofs.Matrices.{told_committed}
use Rattle.verdict.proofs.WellFormed.{tx_within}
use Rattle.verdict.proofs.OwnReads.{no_fault_there, fault_if_committed}
use Rattle.verdict.proofs.own_reads.is_own_fault.Goals as goal

pub returns-then-not-misses : goal.returns-then-not-misses
returns-then-not-misses c = sym (no_fault_there _ _ (sym c.misses.ensures ∙ c.if-not-misses.true))

pub takes_part-requires : goal.takes_part-requires
takes_part-requires c =
    let r = tx_within _ _ c.requires.1 in
    let e = c.step_at-step.ensures.tx_is in
    (omega (arith, r.0, e), omega (arith, r.1, e))

pub returns : goal.returns
returns c =
    sym (fault_if_committed _ _ (sym c.misses.ensures ∙ c.if-not-misses.false)
    ∙ sym (told_committed c.requires.2 c.takes_part.ensures c.step_at-step.ensures.tx_is))
