-- `take_touch` meets its contract.
use Rattle.std.proofs.Common.{sym, ◌∙◌, arith}
use Rattle.std.proofs.lemmas.Result.{MatchResult-weaker}
use Rattle.verdict.specs.Log.{steps}
use Rattle.verdict.proofs.OwnReads.{no_read_misses}
use Rattle.verdict.proofs.WriteMarks.{write_skip}
use Rattle.verdict.proofs.taking.take_touch.Goals as goal

pub step_at-step-requires : goal.step_at-step-requires
unfolding steps
step_at-step-requires c = omega (arith, c.requires.0)

pub returns-then-step-eq-READ : goal.returns-then-step-eq-READ
returns-then-step-eq-READ c =
    let known = c.requires in
    let versions = write_skip _ _ known.4 (λ q. omega (arith, q, c.step_at-step.ensures.kind_is, c.if-step-eq-READ.true)) in
    MatchResult-weaker c.take_read.result c.take_read.ensures (λ m read. (read.0, (versions, known.5, read.1))) (λ e away. away)

pub returns : goal.returns
returns c =
    let written = c.in_ok-take_write.ensures in
    (written.0, (written.1.0, written.1.1, sym (no_read_misses _ _ (λ q. c.if-step-eq-READ.false (c.step_at-step.ensures.kind_is ∙ q)))))
