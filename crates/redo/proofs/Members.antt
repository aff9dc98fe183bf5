-- The members that a call of `redo` has put into the proposal are within it.
use mathlib.Core.Path.{◌≡◌}
use mathlib.Core.List.{List}
use Rattle.std.specs.Prelude.{Result, Ok}
use Prim.Native.Nat.{ℕ, ◌-◌, ◌≤◌}
use native.Mathlib.Omega.{arith}
use lib.ListN.{length, length-append}
use Rattle.words.specs.Lists.{zeros, entries}
use Rattle.verdict.specs.Call.{turned_away, answered}
use Rattle.verdict.proofs.Only.{buffers_one}
use Rattle.plan.specs.Proposal.{proposal_entries}
use Rattle.plan.specs.RedoCall.{leaves_proposal, RedoCall}
use Rattle.verdict.specs.declared.answers.Refusal.{Refusal}

pub members_within : (log : List ℕ) {work proposal work' proposal' : List ℕ} {r : Result ℕ Refusal} {n : ℕ} → r ≡ Ok n → RedoCall log work proposal r work' proposal' → n ≤ length proposal'
unfolding leaves_proposal entries
members_within log e (turned_away m p g f k) = let z : ◌≡◌ {A = ℕ} 0 1 = cc in absurd (omega arith)
members_within log {n} e (answered w g v f k) =
    let i : n ≡ length w = cc in
    rw (buffers_one k).1 (omega (arith, length-append w (zeros (proposal_entries - length w))))
