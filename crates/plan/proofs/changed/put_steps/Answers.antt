-- `put_steps` meets its contract. At each turn the first i steps are there.
use Rattle.std.proofs.Common.{◌≡◌, ◌∙◌, List, [], ◌∷◌, ◌++◌, ℕ, ◌+◌, ◌*◌, refl, sym, ap, length, take, arith}
use Rattle.verdict.specs.Log.{steps, tx, obj, src}
use Rattle.verdict.proofs.WellFormed.{whole_steps, steps_within}
use Rattle.plan.specs.TakenBack.{kind_after, steps_after, taken_back}
use Rattle.plan.specs.Inner.Marks.{marked}
use Rattle.plan.proofs.ChangedLog.{after_more}
use Rattle.plan.proofs.changed.put_steps.Goals as goal

pub loop-i-init : goal.loop-i-init
unfolding steps_after
loop-i-init c = (c.requires.2, refl)

pub put_step-requires : goal.put_step-requires
unfolding steps
put_step-requires c = (c.requires.0, omega arith, omega (arith, whole_steps _ c.requires.1, steps_within _ c.requires.1), c.loop-i.invariant.0)

pub loop-i-preserved : goal.loop-i-preserved
loop-i-preserved c =
    let log = c.args.log.now in
    let back = marked c.args.back.now in
    let i = c.loop-i.i in
    let e : 4 * (i + 1) ≡ 4 * i + 4 = omega arith in (
      c.put_step.ensures.0,
      ap (λ (n : ℕ). take n c.put_step.new.changed) e ∙ c.put_step.ensures.1
          ∙ ap (λ (l : List ℕ). l ++ kind_after back log i ∷ tx log i ∷ obj log i ∷ src log i ∷ []) c.loop-i.invariant.1 ∙ sym (after_more back log i),
    )

pub returns : goal.returns
unfolding steps taken_back
returns c =
    let log = c.args.log.now in
    let i = c.loop-i.i in
    let e : i ≡ steps log = omega arith in
    let w : length log ≡ 4 * steps log = whole_steps log c.requires.1 in
    let n : length log ≡ 4 * i = omega arith in
    (c.loop-i.invariant.0, ap (λ (m : ℕ). take m c.loop-i.changed) n ∙ c.loop-i.invariant.1 ∙ ap (steps_after (marked c.args.back.now) log) e)
