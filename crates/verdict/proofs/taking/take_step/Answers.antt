-- `take_step` meets its contract.
use Rattle.std.proofs.Common.{◌∙◌, sym, arith}
use Rattle.std.proofs.lemmas.Result.{MatchResult-weaker}
use Rattle.words.proofs.Truth.{to_false, and→, upto→}
use Rattle.verdict.specs.Log.{steps}
use Rattle.verdict.proofs.Noting.{behind_begin, behind_touch, behind_last}
use Rattle.verdict.proofs.Numbers.{no_such_kind}
use Rattle.verdict.proofs.OwnReads.{no_read_misses}
use Rattle.verdict.proofs.taking.take_step.Goals as goal

pub step_at-step-requires : goal.step_at-step-requires
unfolding steps
step_at-step-requires c = omega (arith, c.requires.0)

pub take_begin-requires : goal.take_begin-requires
take_begin-requires c =
    let known = c.requires in
    (known.0, known.1, sym c.step_at-step.ensures.kind_is ∙ c.in-1.is, known.2.has_lived, known.2.has_begun)

pub take_touch-requires : goal.take_touch-requires
take_touch-requires c =
    let known = c.requires in
    let is = c.step_at-step.ensures.kind_is in
    (known.0, omega (arith, is), omega (arith, is), known.2.has_lived, known.2.has_written, known.2.writes_size)

pub take_last-requires : goal.take_last-requires
take_last-requires c =
    let known = c.requires in
    let is = c.step_at-step.ensures.kind_is in
    (known.0, known.1, omega (arith, is), omega (arith, is), known.2.has_lived, known.2.has_committed)

pub returns-in_ok-take_begin-in-1 : goal.returns-in_ok-take_begin-in-1
returns-in_ok-take_begin-in-1 c =
    let is = sym c.step_at-step.ensures.kind_is ∙ c.in-1.is in
    let behind = c.in_ok-take_begin-in-1.ensures in
    (behind.0, (behind_begin _ _ c.requires.2 is behind.1.0 behind.1.1, sym (no_read_misses _ _ (λ q. omega (arith, q, is)))))

pub returns-in-2 : goal.returns-in-2
returns-in-2 c =
    let is = c.step_at-step.ensures.kind_is in
    MatchResult-weaker c.take_touch.result c.take_touch.ensures
    (λ m behind. (behind.0, (behind_touch _ _ c.requires.2 (omega (arith, is)) (omega (arith, is)) behind.1.0 behind.1.1, behind.1.2)))
    (λ e away. away)

pub returns-in_ok-take_last-in-4 : goal.returns-in_ok-take_last-in-4
returns-in_ok-take_last-in-4 c =
    let is = c.step_at-step.ensures.kind_is in
    let behind = c.in_ok-take_last-in-4.ensures in
    (behind.0, (behind_last _ _ c.requires.2 (omega (arith, is)) behind.1.0 behind.1.1, sym (no_read_misses _ _ (λ q. omega (arith, q, is)))))

pub returns-in_default : goal.returns-in_default
returns-in_default c =
    let is = c.step_at-step.ensures.kind_is in
    no_such_kind _ _ (to_false _ (λ h. omega (arith, upto→ (and→ h).0, is)))

pub returns-in_default-2 : goal.returns-in_default-2
returns-in_default-2 c =
    let is = c.step_at-step.ensures.kind_is in
    no_such_kind _ _ (to_false _ (λ h. omega (arith, upto→ (and→ h).1, is)))
