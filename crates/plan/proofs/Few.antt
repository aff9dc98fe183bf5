-- How large the values of an answer are.
use mathlib.Core.Path.{◌≡◌, refl}
use mathlib.Core.List.{List}
use Prim.Native.Nat.{ℕ, ◌≤◌}
use native.Mathlib.Omega.{arith}
use lib.ListN.{length}
use Rattle.verdict.specs.Limits.{transactions}
use Rattle.verdict.specs.Refusal.{log_refusal}
use Rattle.verdict.specs.Answers.{Passed}
use Rattle.words.proofs.Truth.{to_false}
use Rattle.verdict.proofs.WellFormed.{well_formed}
use Rattle.verdict.proofs.Versions.{not_zero}
use Rattle.verdict.proofs.Bounds.{Within, within_when}
use Rattle.plan.specs.Proposal.{proposal_entries, length_refusal, proposal_refusal}
use Rattle.plan.specs.Redo.{Redo, redo}
use Rattle.plan.proofs.Choice.{gives_within}
use Rattle.plan.proofs.Rising.{rising_few}

pub length_within : (proposal : List ℕ) → Within (length_refusal proposal)
unfolding length_refusal
length_within proposal = within_when 12 0 _ (omega arith) (omega arith)

pub proposal_within : (log proposal : List ℕ) → Within (proposal_refusal log proposal)
unfolding proposal_refusal
proposal_within log proposal = within_when 19 0 _ (omega arith) (omega arith)

-- a proposal of the planner has no more members than it has numbers
pub redo_few : (log : List ℕ) → log_refusal log ≡ Passed → {w : List ℕ} → Redo transactions log w → length w ≤ proposal_entries
redo_few log well (redo {rest} x) =
    rising_few rest (to_false (rest 0) (λ k. not_zero log (well_formed log well) 0 (gives_within transactions log x 0 k) refl))
