-- `misses` meets its contract.
use mathlib.Core.Path.{◌≡◌, refl, sym, ◌∙◌}
use native.Mathlib.Omega.{arith}
use Rattle.verdict.specs.Log.{kind}
use Rattle.verdict.proofs.WellFormed.{tx_within}
use Rattle.verdict.proofs.Sources.{by_reader}
use Rattle.verdict.proofs.OwnReads.{no_read_misses, own_misses, other_misses}
use Rattle.verdict.proofs.own_reads.misses.Lts
use Rattle.verdict.proofs.own_reads.misses.Tie as tie
use Rattle.verdict.proofs.own_reads.misses.Reads
use Rattle.verdict.proofs.own_reads.misses.Goals as goal

-- places on the way, by the names that the toolchain gives them
abbrev Else-step-ne-READ : Type 0
Else-step-ne-READ = Lts.Else1 tie.the-claims Reads.Pre Reads.Post

is_read : (c : Else-step-ne-READ) → kind c.args.log.now c.args.i ≡ 2
is_read c = sym c.step_at-step.ensures.kind_is ∙ c.if-step-ne-READ.false

pub returns-then-step-ne-READ : goal.returns-then-step-ne-READ
returns-then-step-ne-READ c = sym (no_read_misses _ _ (λ e. c.if-step-ne-READ.true (c.step_at-step.ensures.kind_is ∙ e)))

pub returns-then-step : goal.returns-then-step
returns-then-step c =
    let told = c.step_at-step.ensures in
    sym (own_misses _ _ (sym told.src_is ∙ c.if-step.true ∙ told.tx_is))

pub object_marked-requires : goal.object_marked-requires
object_marked-requires c =
    omega (arith, c.step_at-step.ensures.tx_is, (tx_within _ _ c.requires.1).1)

pub returns : goal.returns
returns c =
    let told = c.step_at-step.ensures in
    sym (other_misses _ _ (is_read c.before.before.before.before) (λ e. c.if-step.false (told.src_is ∙ e ∙ sym told.tx_is))
    ∙ by_reader _ _ c.requires.2 c.requires.1 (is_read c.before.before.before.before) told.obj_is told.tx_is c.object_marked.ensures refl)
