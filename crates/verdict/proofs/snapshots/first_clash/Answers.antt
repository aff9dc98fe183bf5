-- `first_clash` meets its contract.
use Rattle.std.specs.Prelude.{None}
use Rattle.std.proofs.Common.{◌≡◌, ◌∙◌, false, refl, sym, arith}
use Rattle.words.specs.Tests.{some}
use Rattle.words.proofs.Truth.{→some, →none, none_next}
use Rattle.bits.specs.Word.{marked}
use Rattle.bits.proofs.Marks.{no_mark}
use Rattle.verdict.specs.Limits.{transactions}
use Rattle.verdict.specs.Snapshot.{wrong_commit}
use Rattle.verdict.proofs.SnapshotLaws.{clash_found, no_clash}
use Rattle.verdict.proofs.Clashing.{nobody_yet}
use Rattle.verdict.proofs.snapshots.first_clash.Goals as goal
use Rattle.verdict.proofs.snapshots.first_clash.Goals.{in-Some+else-loop-p-test, in_default, then-both-ne0+else-loop-x-test, else-both-ne0}

pub search-init : goal.search-init
unfolding some
search-init c = (refl, nobody_yet _ 64 refl, refl)

pub note_commit-requires : goal.note_commit-requires
note_commit-requires c =
    let pre = c.requires in
    (pre.0, pre.1, pre.2, c.search.invariant.1, omega (arith, pre.4))

pub loop-p-init : goal.loop-p-init
unfolding some
loop-p-init c = (c.search.invariant.0, refl)

pub clashes-both-requires : goal.clashes-both-requires
clashes-both-requires c =
    let pre = c.requires in
    let commit = c.in-Some.ensures.told in
    (pre.0, pre.1, pre.2, pre.3, omega (arith, pre.4), commit.0, commit.1, commit.2, omega arith)

pub loop-x-init : goal.loop-x-init
unfolding some
loop-x-init c = (c.loop-p.invariant.0, refl)

pub loop-x-preserved : goal.loop-x-preserved
loop-x-preserved c = (c.loop-x.invariant.0, none_next _ _ c.loop-x.invariant.1 (sym c.has_mark.ensures ∙ c.if-has_mark.false))

pub loop-p-preserved : goal.loop-p-preserved
loop-p-preserved c =
    let over : some 64 (marked c.clashes-both.result) ≡ false = elim c.if-both-ne0.branch [
      | then-both-ne0+else-loop-x-test w ↦ let e : w.loop-x.x ≡ 64 = omega (arith, w.loop-x-test.false, w.loop-x.auto.x-end) in rw e at w.loop-x.invariant.1
      | else-both-ne0 w ↦ →none _ (λ x _. rw w.if-both-ne0.false (no_mark x))
    ] in
    let still : c.if-both-ne0.found ≡ None = elim c.if-both-ne0.branch [
      | then-both-ne0+else-loop-x-test w ↦ w.found-is ∙ w.loop-x.invariant.0
      | else-both-ne0 w ↦ w.found-is ∙ c.loop-p.invariant.0
    ] in
    (still, none_next _ _ c.loop-p.invariant.1 (sym c.clashes-both.ensures ∙ over))

pub search-preserved : goal.search-preserved
unfolding wrong_commit
search-preserved c =
    let none : wrong_commit transactions c.args.log.now c.search.j ≡ false = elim c.match-note_commit.branch [
      | in-Some+else-loop-p-test w ↦ let e : w.loop-p.p ≡ 129 = omega (arith, w.loop-p-test.false, w.loop-p.auto.p-end) in rw e at w.loop-p.invariant.1
      | in_default w ↦ →none _ (λ p h. w.in_default.ensures.told p)
    ] in
    let still : c.match-note_commit.found ≡ None = elim c.match-note_commit.branch [
      | in-Some+else-loop-p-test w ↦ w.found-is ∙ w.loop-p.invariant.0
      | in_default w ↦ w.found-is ∙ c.search.invariant.0
    ] in
    (still, c.note_commit.ensures.last, none_next _ _ c.search.invariant.2 none)

pub returns-after-search : goal.returns-after-search
returns-after-search c = rw c.search.invariant.0 (no_clash _ _ _ c.search.invariant.2 (omega arith))

pub returns-then-has_mark : goal.returns-then-has_mark
returns-then-has_mark c =
    let search = c.search in
    clash_found _ _ search.j search.invariant.2 c.loop-p.p (omega arith) (omega arith) c.loop-p.invariant.1
    (sym c.clashes-both.ensures ∙ →some _ c.loop-x.x (omega arith) (sym c.has_mark.ensures ∙ c.if-has_mark.true))
