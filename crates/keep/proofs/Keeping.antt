-- Steps copied one behind another.
use mathlib.Core.Path.{◌≡◌, refl, ap}
use mathlib.Core.Bool.{true, false}
use mathlib.Core.List.{List, [], ◌++◌}
use Prim.Native.Nat.{ℕ, suc, ◌+◌, ◌*◌, ◌≤◌}
use native.Mathlib.Omega.{arith}
use lib.ListN.{length, take, drop}
use lib.Seq.{drop-cons}
use native.Mathlib.Numerals.{add-one}
use Rattle.words.proofs.Truth.{provided_true, provided_false}
use Rattle.verdict.specs.Log.{kind, tx, obj, src}
use Rattle.keep.specs.Kept.{step, marked, kept_step, kept}

-- the four numbers of step i, where they stand
pub step_stands : (log : List ℕ) (i n : ℕ) → n ≡ 4 → 4 * i + 4 ≤ length log → take n (drop (4 * i) log) ≡ step log i
unfolding step kind tx obj src
step_stands log i n e h =
    let a = 4 * i in
    let p : a + 1 ≡ suc a = omega arith in
    let q : a + 2 ≡ suc (suc a) = omega arith in
    let r : a + 3 ≡ suc (suc (suc a)) = omega arith in
    rw (
      e,
      drop-cons log a 0 (omega arith),
      drop-cons log (suc a) 0 (omega arith),
      drop-cons log (suc (suc a)) 0 (omega arith),
      drop-cons log (suc (suc (suc a))) 0 (omega arith),
      p,
      q,
      r,
    ) refl

module _ (marks log : List ℕ) (i : ℕ) where
  pub keeps_it : marked marks (tx log i) ≡ true → kept_step marks log i ≡ step log i
  unfolding kept_step
  keeps_it = provided_true (step log i) []

  pub keeps_not : marked marks (tx log i) ≡ false → kept_step marks log i ≡ []
  unfolding kept_step
  keeps_not = provided_false (step log i) []

  -- one step more
  pub kept_more : kept marks (i + 1) log ≡ kept marks i log ++ kept_step marks log i
  unfolding kept
  kept_more = ap (λ (n : ℕ). kept marks n log) (add-one i)
