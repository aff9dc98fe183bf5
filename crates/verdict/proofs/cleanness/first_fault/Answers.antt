-- `first_fault` meets its contract.
use Rattle.std.proofs.Common.{◌≡◌, ◌∙◌, ◌-◌, ◌≤◌, ◌<◌, List, ℕ, suc, false, refl, sym, inr, arith}
use Rattle.words.specs.Tests.{◌upto◌, ◌and◌, lowest}
use Rattle.words.proofs.Truth.{→below, provided_true}
use Rattle.words.proofs.From.{from_here, from_next, from_end, from_first}
use Rattle.verdict.specs.Limits.{transactions, objects}
use Rattle.verdict.specs.Log.{steps, kind, tx, obj}
use Rattle.verdict.specs.Refusal.{log_refusal}
use Rattle.verdict.specs.Answers.{Passed}
use Rattle.verdict.specs.Clean.{source_fault}
use Rattle.verdict.specs.Inner.WriteTable.{WritesFrom}
use Rattle.verdict.proofs.Faults.{not_faulty}
use Rattle.verdict.proofs.JudgedReads.{other_kind}
use Rattle.verdict.proofs.WellFormed.{well_formed}
use Rattle.verdict.proofs.WriteMarks.{none_later, later_skip, later_more}
use Rattle.verdict.proofs.cleanness.first_fault.Goals as goal

-- the last of the first k steps, by what is known of those behind it
module _ (log : List ℕ) (k : ℕ) (some : 0 < k) {later : List ℕ} {fault : ℕ} (marks : WritesFrom log k later)
    (found : fault ≡ lowest (steps log) (λ j. k upto j and source_fault log j)) where
  behind : WritesFrom log (suc (k - 1)) later
  behind = let e : suc (k - 1) ≡ k = omega arith in rw e marks

  -- the fault stays where the step is not faulty
  fault_stays : source_fault log (k - 1) ≡ false → fault ≡ lowest (steps log) (λ j. (k - 1) upto j and source_fault log j)
  fault_stays n =
      let e : suc (k - 1) ≡ k = omega arith in
      (rw e found) ∙ sym (from_next _ (source_fault log) (k - 1) n)

-- a write: its transaction and its object
module _ (log : List ℕ) (passed : log_refusal log ≡ Passed) (i : ℕ) (inside : i < steps log) where
  tx_in : tx log i ≤ transactions
  tx_in = ((well_formed log passed).range i inside).1

  object_in : kind log i ≡ 3 → obj log i < objects
  object_in k = (well_formed log passed).object i inside (inr k)

pub loop-i-init : goal.loop-i-init
unfolding steps
loop-i-init c = (none_later _ 129 _ refl refl, sym (from_end _ _ _ (omega arith)))

pub bounds-later-t : goal.bounds-later-t
unfolding steps
bounds-later-t c = omega (arith, c.from-t.ensures, c.step_at-step.ensures.tx_is, tx_in _ c.requires.0 (c.loop-i.i - 1) (omega arith))

pub bounds-later-t-then-step-eq-WRITE : goal.bounds-later-t-then-step-eq-WRITE
unfolding steps
bounds-later-t-then-step-eq-WRITE c =
    omega (arith, c.from-t.ensures, c.step_at-step.ensures.tx_is, tx_in _ c.requires.0 (c.loop-i.i - 1) (omega arith))

pub loop-i-preserved-then-step-eq-WRITE : goal.loop-i-preserved-then-step-eq-WRITE
unfolding steps
loop-i-preserved-then-step-eq-WRITE c =
    let log = c.args.log.now in
    let i = c.loop-i.i - 1 in
    let inside : i < steps log = omega arith in
    let step = c.step_at-step.ensures in
    let known = c.loop-i.invariant in
    let is_write = sym step.kind_is ∙ c.if-step-eq-WRITE.true in (
      rw (c.with_mark.ensures, c.from-t.ensures ∙ step.tx_is, c.from.ensures ∙ step.obj_is, provided_true _ _ (→below (object_in log c.requires.0 i inside is_write)))
          (later_more _ _ (behind log c.loop-i.i c.loop-i-test.true known.0 known.1) inside is_write (tx_in log c.requires.0 i inside)),
      fault_stays log c.loop-i.i c.loop-i-test.true known.0 known.1 (not_faulty _ _ (other_kind _ _ (λ (e : kind log i ≡ 2). omega (arith, is_write)))),
    )

pub is_faulty-requires : goal.is_faulty-requires
unfolding steps
is_faulty-requires c =
    let known = c.loop-i.invariant in
    (c.requires.0, omega arith, c.requires.1, behind _ c.loop-i.i c.loop-i-test.true known.0 known.1)

pub loop-i-preserved-then-is_faulty : goal.loop-i-preserved-then-is_faulty
unfolding steps
loop-i-preserved-then-is_faulty c =
    let log = c.args.log.now in
    let known = c.loop-i.invariant in (
      later_skip _ _ (behind log c.loop-i.i c.loop-i-test.true known.0 known.1) (omega arith) (λ e. c.if-step-eq-WRITE.false (c.step_at-step.ensures.kind_is ∙ e)),
      sym (from_here _ (source_fault log) _ (omega arith) (sym c.is_faulty.ensures ∙ c.if-is_faulty.true)),
    )

pub loop-i-preserved : goal.loop-i-preserved
unfolding steps
loop-i-preserved c =
    let log = c.args.log.now in
    let known = c.loop-i.invariant in (
      later_skip _ _ (behind log c.loop-i.i c.loop-i-test.true known.0 known.1) (omega arith) (λ e. c.if-step-eq-WRITE.false (c.step_at-step.ensures.kind_is ∙ e)),
      fault_stays log c.loop-i.i c.loop-i-test.true known.0 known.1 (sym c.is_faulty.ensures ∙ c.if-is_faulty.false),
    )

pub returns : goal.returns
returns c = let e : c.loop-i.i ≡ 0 = omega arith in rw e at c.loop-i.invariant.1 ∙ from_first _ (source_fault c.args.log.now)
