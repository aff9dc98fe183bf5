-- `first_own` meets its contract.
use mathlib.Core.Path.{◌≡◌, refl, sym, ◌∙◌}
use mathlib.Core.List.{List}
use Rattle.verdict.specs.Answers.{Passed}
use Rattle.verdict.specs.Refusal.{tried, step_refusal}
use Prim.Native.Nat.{ℕ, ◌<◌}
use native.Mathlib.Omega.{arith}
use lib.ListN.{replicate, length-set, length-replicate}
use Rattle.words.specs.Tests.{some}
use Rattle.words.proofs.Truth.{lowest_none, lowest_found, none_next}
use Rattle.verdict.specs.Log.{steps}
use Rattle.verdict.specs.Inner.Checking.{InRange}
use Rattle.verdict.proofs.WellFormed.{tried→, step_within}
use Rattle.verdict.proofs.WriteMarks.{none_written}
use Rattle.verdict.proofs.own_reads.first_own.Goals as goal

-- the step has its numbers within the limits
within : (log : List ℕ) {n i : ℕ} → tried n (step_refusal log) ≡ Passed → i < n → InRange log i
within log passed h = step_within _ _ (tried→ _ passed _ h)

pub loop-i-init : goal.loop-i-init
unfolding some
loop-i-init c = (c.requires.0, refl, none_written _ 129 (omega arith), length-set {A = ℕ} (replicate 129 0) 0 18446744073709551615 ∙ length-replicate {A = ℕ} 129 0)

pub is_own_fault-requires : goal.is_own_fault-requires
unfolding steps
is_own_fault-requires c = let inv = c.loop-i.invariant in (omega (arith, inv.0), within _ c.requires.1 c.loop-i-test.true, c.requires.2, inv.2)

pub returns-then-is_own_fault : goal.returns-then-is_own_fault
returns-then-is_own_fault c =
    let loop = c.loop-i in
    sym (lowest_found _ loop.i (omega (arith, loop.invariant.0)) (sym c.is_own_fault.ensures ∙ c.if-is_own_fault.true) loop.invariant.1)

pub note_version-requires : goal.note_version-requires
unfolding steps
note_version-requires c = let inv = c.loop-i.invariant in (omega (arith, inv.0), within _ c.requires.1 c.loop-i-test.true, inv.2, inv.3)

pub loop-i-preserved : goal.loop-i-preserved
loop-i-preserved c =
    let inv = c.loop-i.invariant in
    (inv.0, none_next _ _ inv.1 (sym c.is_own_fault.ensures ∙ c.if-is_own_fault.false), c.note_version.ensures.0, c.note_version.ensures.1)

pub returns : goal.returns
returns c =
    let loop = c.loop-i in
    let e : loop.i ≡ c.args.n = omega arith in
    loop.invariant.0 ∙ sym (lowest_none _ (rw (e, loop.invariant.0) at loop.invariant.1))
