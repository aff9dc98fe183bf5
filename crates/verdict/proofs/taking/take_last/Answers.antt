-- `take_last` meets its contract.
use Rattle.std.proofs.Common.{◌∙◌, arith, inr}
use Rattle.std.proofs.lemmas.Result.{MatchResult-weaker}
use Rattle.verdict.specs.Log.{steps}
use Rattle.verdict.proofs.Noting.{none_commits}
use Rattle.verdict.proofs.taking.take_last.Goals as goal

pub step_at-step-requires : goal.step_at-step-requires
unfolding steps
step_at-step-requires c = omega (arith, c.requires.0)

pub take_end-requires : goal.take_end-requires
take_end-requires c =
    let known = c.requires in
    (known.0, inr (omega (arith, known.2, known.3, c.step_at-step.ensures.kind_is, c.if-step-eq-COMMIT.false)), known.4)

pub returns : goal.returns
returns c =
    let order = none_commits _ _ (λ q. c.if-step-eq-COMMIT.false (c.step_at-step.ensures.kind_is ∙ q)) c.requires.5 in
    MatchResult-weaker c.take_end.result c.take_end.ensures (λ u ended. (ended.0, (ended.1, order))) (λ e away. away)
