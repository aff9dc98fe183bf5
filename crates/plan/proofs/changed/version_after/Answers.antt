-- `version_after` meets its contract.
use Rattle.std.proofs.Common.{◌≡◌, ◌∙◌, ◌≤◌, List, ℕ, sym, ap, length, length-take-le, arith}
use Rattle.std.proofs.lemmas.List.{length-replicate}
use Rattle.verdict.specs.Limits.{work_bytes, witness_buffer}
use Rattle.verdict.specs.Refusal.{log_refusal}
use Rattle.verdict.specs.Answers.{Passed}
use Rattle.verdict.proofs.WellFormed.{whole_steps, steps_within}
use Rattle.plan.specs.Inner.Trials.{step_numbers}
use Rattle.plan.proofs.ChangedLog.{changed, well_changed}
use Rattle.plan.proofs.Trying.{shown_after}
use Rattle.plan.proofs.changed.version_after.Goals as goal

-- the log has room in the changed one
within : (log after : List ℕ) → log_refusal log ≡ Passed → length after ≡ step_numbers → length log ≤ length after
within log after well size = omega (arith, whole_steps log well, steps_within log well)

pub slice_bounds-version-end : goal.slice_bounds-version-end
slice_bounds-version-end c = sym (length-take-le _ _ (within _ _ c.requires.1 c.put_steps.ensures.0))

pub slice_bounds-changed-end : goal.slice_bounds-changed-end
slice_bounds-changed-end c = within _ _ c.requires.1 c.put_steps.ensures.0

pub returns : goal.returns
returns c =
    rw c.unwrap_or.ensures
    (shown_after (ap log_refusal c.put_steps.ensures.1 ∙ well_changed (changed _ _) c.requires.1) c.put_steps.ensures.1
    (length-replicate {A = ℕ} work_bytes 0) (length-replicate {A = ℕ} witness_buffer 0) _ c.version.ensures)
