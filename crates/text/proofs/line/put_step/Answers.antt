-- `put_step` meets its contract: four stores, one after another.
use native.Mathlib.Omega.{arith}
use mathlib.Core.Path.{◌≡◌}
use mathlib.Core.List.{List, [], ◌∷◌}
use Prim.Native.Nat.{ℕ, suc, ◌+◌, ◌*◌, ◌≤◌}
use lib.ListN.{length, set, length-set}
use lib.Seq.{sets-eq}
use Rattle.text.specs.Inner.Put.{put_at}
use Rattle.text.proofs.line.put_step.Goals as goal

-- four stores, one after another
four_stores : (l : List ℕ) (a k t x s : ℕ) → a + 4 ≤ length l
    → set (set (set (set l a k) (a + 1) t) (a + 2) x) (a + 3) s ≡ put_at a (k ∷ t ∷ x ∷ s ∷ []) l
unfolding put_at
four_stores l a k t x s h =
    let p : a + 1 ≡ suc a = omega arith in
    let q : a + 2 ≡ suc (suc a) = omega arith in
    let r : a + 3 ≡ suc (suc (suc a)) = omega arith in
    rw (p, q, r) (sets-eq (k ∷ t ∷ x ∷ s ∷ []) l a h)

pub bounds-steps-a-2 : goal.bounds-steps-a-2
bounds-steps-a-2 c = simp length-set (omega arith)

pub bounds-steps-a-3 : goal.bounds-steps-a-3
bounds-steps-a-3 c = simp length-set (omega arith)

pub bounds-steps-a-4 : goal.bounds-steps-a-4
bounds-steps-a-4 c = simp length-set (omega arith)

pub returns : goal.returns
returns c = four_stores c.args.steps.now (4 * c.args.i) _ _ _ _ (omega arith)
