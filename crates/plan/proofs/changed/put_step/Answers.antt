-- `put_step` meets its contract: four stores, one after another.
use mathlib.Core.Path.{ap, ◌∙◌}
use mathlib.Core.List.{[], ◌∷◌, ◌++◌}
use Prim.Native.Nat.{ℕ, ◌*◌}
use native.Mathlib.Omega.{arith}
use lib.ListN.{take, length-set}
use Rattle.words.proofs.Stored.{four_stored}
use Rattle.verdict.specs.Log.{kind, tx, obj, src}
use Rattle.plan.specs.TakenBack.{kind_after}
use Rattle.plan.specs.Inner.Marks.{marked}
use Rattle.plan.proofs.changed.put_step.Goals as goal

pub bounds-changed-a : goal.bounds-changed-a
bounds-changed-a c = omega (arith, c.requires.2)

pub bounds-changed-a-2 : goal.bounds-changed-a-2
bounds-changed-a-2 c = omega (arith, c.requires.2)

pub bounds-changed-a-3 : goal.bounds-changed-a-3
bounds-changed-a-3 c = omega (arith, c.requires.2)

pub bounds-changed-a-4 : goal.bounds-changed-a-4
bounds-changed-a-4 c = omega (arith, c.requires.2)

pub returns : goal.returns
unfolding kind_after kind tx obj src
returns c = let a = c.args in
    let log = a.log.now in
    let back = marked a.back.now in (
      simp length-set c.requires.3,
      four_stored a.changed.now (4 * a.i) c.kind_of.result (tx log a.i) (obj log a.i) (src log a.i) (omega (arith, c.requires.2, c.requires.3))
          ∙ ap (λ (k : ℕ). take (4 * a.i) a.changed.now ++ k ∷ tx log a.i ∷ obj log a.i ∷ src log a.i ∷ []) c.kind_of.ensures,
    )
