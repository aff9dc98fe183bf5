-- `fault_step` meets its contract.
use mathlib.Core.Path.{sym, ap}
use Rattle.verdict.specs.Clean.{fault_step}
use Rattle.verdict.proofs.cleanness.fault_step.Goals as goal

pub returns-in-Own : goal.returns-in-Own
unfolding fault_step
returns-in-Own c = sym (ap fault_step c.in-Own.is)

pub returns-in-Aborted : goal.returns-in-Aborted
unfolding fault_step
returns-in-Aborted c = sym (ap fault_step c.in-Aborted.is)

pub returns-in-Unfinal : goal.returns-in-Unfinal
unfolding fault_step
returns-in-Unfinal c = sym (ap fault_step c.in-Unfinal.is)
