-- What the judge tells of the members: whether one can be spared, and whether all are needed.
use mathlib.Core.Path.{◌≡◌, refl, sym, subst}
use mathlib.Core.Bool.{Bool, true, false}
use mathlib.Core.Logic.{◌⊎◌, inl, inr, ⊎_elim}
use mathlib.Core.List.{List}
use Prim.Native.Nat.{ℕ, ◌+◌, ◌≤◌, ◌<◌}
use native.Mathlib.Omega.{arith}
use lib.ListN.{length, set}
use Rattle.words.specs.Tests.{◌is◌, ◌below◌}
use Rattle.verdict.specs.Limits.{transactions}
use Rattle.words.proofs.Truth.{decide, not_both, is→, isnt→, below→, not_below→}
use Rattle.plan.specs.TakenBack.{taken_back, ◌but◌}
use Rattle.plan.specs.Fine.{Fine}
use Rattle.plan.specs.WillDo.{Needs}
use Rattle.plan.specs.Inner.Marks.{table, marked}
use Rattle.plan.specs.Inner.Trials.{Tells, so, not_so}
use Rattle.plan.proofs.MarkLaws.{marked_without, marked_beyond}

pub told_so : {A : Type 0} {b : Bool} → Tells A b → b ≡ true → A
told_so (so a) e = a
told_so (not_so n) e = absurd (not_both e refl)

pub told_not : {A : Type 0} {b : Bool} → Tells A b → b ≡ false → A → ⊥
told_not (so a) e = absurd (not_both refl e)
told_not (not_so n) e = n

-- what is told of a thing is told of one that is so just when it is
pub told_as : {A B : Type 0} {b : Bool} → (A → B) → (B → A) → Tells A b → Tells B b
told_as f g (so a) = so (f a)
told_as f g (not_so n) = not_so (λ b. n (g b))

module _ (log marks : List ℕ) where
  abbrev Spare : ℕ → Type 0
  Spare t = (marked marks t ≡ true) × Fine transactions (taken_back (marked marks but t) log)

  -- by the log without the mark of t
  pub spare_told : (t : ℕ) → t < length marks → marked marks t ≡ true → {b : Bool} → Tells (Fine transactions (taken_back (marked (set marks t 0)) log)) b → Tells (Spare t) b
  spare_told t h m s =
      told_as {A = Fine transactions (taken_back (marked (set marks t 0)) log)}
      (λ f. (m, subst (λ (p : ℕ → Bool). Fine transactions (taken_back p log)) (marked_without marks t h) f))
      (λ f. subst (λ (p : ℕ → Bool). Fine transactions (taken_back p log)) (sym (marked_without marks t h)) f.1) s

  -- none of the first t can be spared
  abbrev pub NoneSpare : ℕ → Type 0
  NoneSpare t = (u : ℕ) → u < t → marked marks u ≡ true → Needs transactions log (marked marks) u

  pub none_more : (t : ℕ) → NoneSpare t → (Spare t → ⊥) → NoneSpare (t + 1)
  none_more t f n u h m = go (decide (u is t))
    where
      go : ((u is t) ≡ true) ⊎ ((u is t) ≡ false) → Needs transactions log (marked marks) u
      go (inl e) = let z : u ≡ t = is→ e in λ g. n (rw (← z) (m, g))
      go (inr e) = let z : u ≡ t → ⊥ = isnt→ e in f u (omega arith) m

  pub none_all : length marks ≡ table → (t : ℕ) → table ≤ t → NoneSpare t → (u : ℕ) → marked marks u ≡ true → Needs transactions log (marked marks) u
  none_all l t h f u m =
      ⊎_elim (λ (k : (u below table) ≡ true). f u (omega (arith, below→ k)) m)
      (λ (k : (u below table) ≡ false). absurd (not_both m (marked_beyond marks u (omega (arith, not_below→ k))))) (decide (u below table))
