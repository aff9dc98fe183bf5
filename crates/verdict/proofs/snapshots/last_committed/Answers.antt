-- `last_committed` meets its contract.
use Rattle.std.proofs.Common.{◌≡◌, ◌∙◌, ◌-◌, ◌≤◌, ◌<◌, ◌*◌, List, ℕ, refl, sym, ap, length, arith}
use Rattle.words.proofs.Truth.{and_true, and_no_left, →is, →isnt}
use Rattle.verdict.specs.Limits.{transactions}
use Rattle.verdict.specs.Log.{steps, tx, writer, commits_writer}
use Rattle.verdict.specs.Refusal.{log_refusal}
use Rattle.verdict.specs.Answers.{Passed}
use Rattle.verdict.specs.declared.answers.Writer.TheVariants.{Committed}
use Rattle.verdict.proofs.WellFormed.{well_formed}
use Rattle.verdict.proofs.SnapshotLaws.{last_none, found_back, further_back}
use Rattle.verdict.proofs.snapshots.last_committed.Goals as goal

-- the transaction of a step is within the limit
tx_in : (log : List ℕ) → log_refusal log ≡ Passed → (b j : ℕ) → 4 * b ≤ length log → j ≤ b → 0 < j → tx log (j - 1) ≤ transactions
unfolding steps
tx_in log passed b j room within some = ((well_formed log passed).range (j - 1) (omega arith)).1

pub loop-j-init : goal.loop-j-init
loop-j-init c = refl

pub object_marked-requires : goal.object_marked-requires
object_marked-requires c =
    omega (arith, c.step_at-earlier.ensures.tx_is, tx_in _ c.requires.0 c.args.b c.loop-j.j c.requires.2 c.loop-j.auto.j c.loop-j-test.true)

pub returns-then-object_marked : goal.returns-then-object_marked
unfolding commits_writer
returns-then-object_marked c =
    let step = c.step_at-earlier.ensures in
    let known = c.requires in
    let t = c.step_at-earlier.result.tx in
    let within = tx_in _ known.0 c.args.b c.loop-j.j known.2 c.loop-j.auto.j c.loop-j-test.true in
    let says =
    and_true (→is (sym step.kind_is ∙ c.if-earlier-eq-COMMIT.true))
    ∙ ap (writer c.args.log.now c.args.x) (sym step.tx_is) ∙ sym (known.1.mark t _ (rw step.tx_is within) known.3) ∙ sym c.object_marked.ensures
    in
    ap (λ (t : ℕ). Committed t (c.loop-j.j - 1)) step.tx_is ∙ sym (c.loop-j.invariant ∙ found_back _ _ c.loop-j.j (omega arith) (says ∙ c.if-object_marked.true))

pub loop-j-preserved-else-object_marked : goal.loop-j-preserved-else-object_marked
unfolding commits_writer
loop-j-preserved-else-object_marked c =
    let step = c.step_at-earlier.ensures in
    let known = c.requires in
    let t = c.step_at-earlier.result.tx in
    let within = tx_in _ known.0 c.args.b c.loop-j.j known.2 c.loop-j.auto.j c.loop-j-test.true in
    let says =
    and_true (→is (sym step.kind_is ∙ c.if-earlier-eq-COMMIT.true))
    ∙ ap (writer c.args.log.now c.args.x) (sym step.tx_is) ∙ sym (known.1.mark t _ (rw step.tx_is within) known.3) ∙ sym c.object_marked.ensures
    in
    c.loop-j.invariant ∙ further_back _ _ c.loop-j.j (omega arith) (says ∙ c.if-object_marked.false)

pub loop-j-preserved : goal.loop-j-preserved
unfolding commits_writer
loop-j-preserved c =
    c.loop-j.invariant ∙ further_back _ _ c.loop-j.j (omega arith) (and_no_left _ (→isnt (λ e. c.if-earlier-eq-COMMIT.false (c.step_at-earlier.ensures.kind_is ∙ e))))

pub returns : goal.returns
returns c = let e : c.loop-j.j ≡ 0 = omega arith in sym (c.loop-j.invariant ∙ rw e (last_none _ _))
