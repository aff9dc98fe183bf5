-- `note_version` meets its contract.
use mathlib.Core.Path.{◌≡◌, sym, ◌∙◌}
use Prim.Native.Nat.{◌<◌}
use native.Mathlib.Omega.{arith}
use lib.ListN.{length-set}
use Rattle.words.proofs.Truth.{→below, provided_true}
use Rattle.verdict.specs.Log.{tx}
use Rattle.verdict.proofs.WellFormed.{tx_within, object_within}
use Rattle.verdict.proofs.WriteMarks.{write_skip, write_more}
use Rattle.verdict.proofs.own_reads.note_version.Lts
use Rattle.verdict.proofs.own_reads.note_version.Tie as tie
use Rattle.verdict.proofs.own_reads.note_version.Reads
use Rattle.verdict.proofs.own_reads.note_version.Goals as goal

-- places on the way, by the names that the toolchain gives them
abbrev After-from-t : Type 0
After-from-t = Lts.After-from tie.the-claims Reads.Pre Reads.Post

place_is : (c : After-from-t) → c.from-t.result ≡ tx c.args.log.now c.args.i
place_is c = c.from-t.ensures ∙ c.step_at-step.ensures.tx_is

place_in : (c : After-from-t) → c.from-t.result < 129
place_in c = omega (arith, place_is c, (tx_within _ _ c.requires.1).1)

pub bounds-versions-t : goal.bounds-versions-t
bounds-versions-t c = place_in c.before.before

pub bounds-versions-t-then-step-eq-WRITE : goal.bounds-versions-t-then-step-eq-WRITE
bounds-versions-t-then-step-eq-WRITE c = place_in c.before.before.before.before.before

pub returns-then-step-eq-WRITE : goal.returns-then-step-eq-WRITE
returns-then-step-eq-WRITE c =
    let told = c.step_at-step.ensures in
    let object-is = c.from.ensures ∙ told.obj_is in
    let within = c.requires.1 in (
      rw (c.with_mark.ensures, place_is c.before.before.before.before.before, object-is, provided_true _ _ (→below (object_within _ _ within)))
          (write_more _ _ c.requires.2 (sym told.kind_is ∙ c.if-step-eq-WRITE.true) (omega (arith, c.requires.3, (tx_within _ _ within).1))),
      length-set c.args.versions.now _ _ ∙ c.requires.3,
    )

pub returns-else-step-eq-WRITE : goal.returns-else-step-eq-WRITE
returns-else-step-eq-WRITE c =
    (write_skip _ _ c.requires.2 (λ e. c.if-step-eq-WRITE.false (c.step_at-step.ensures.kind_is ∙ e)), c.requires.3)
