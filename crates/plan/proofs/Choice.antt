-- What giving back ends with: it is one set, it will do, and all of it was taken back at first.
use mathlib.Core.Path.{◌≡◌, refl, sym, subst}
use mathlib.Core.Bool.{Bool, true, false}
use mathlib.Core.Logic.{◌⊎◌, inl, inr}
use mathlib.Core.List.{List}
use Prim.Native.Nat.{ℕ, ◌<◌}
use native.Mathlib.Omega.{arith}
use Rattle.words.specs.Tests.{◌below◌}
use Rattle.words.proofs.Truth.{decide, below→, not_below→}
use Rattle.plan.specs.TakenBack.{taken_back, ◌but◌}
use Rattle.plan.specs.Fine.{Fine}
use Rattle.plan.specs.WillDo.{Needs, WillDo}
use Rattle.plan.specs.Redo.{GivesBack, no_more, one_more}
use Rattle.plan.specs.Inner.Trials.{Within}
use Rattle.plan.proofs.Inside.{but→}

module _ (most : ℕ) (log : List ℕ) where
  -- of two that may be given back the lowest is one
  lowest_one : (back : ℕ → Bool) (t u : ℕ) → back t ≡ true → back u ≡ true → Fine most (taken_back (back but t) log) → Fine most (taken_back (back but u) log)
      → ((a : ℕ) → a < t → back a ≡ true → Needs most log back a) → ((a : ℕ) → a < u → back a ≡ true → Needs most log back a) → t ≡ u
  lowest_one back t u b c f g m n = go (decide (t below u)) (decide (u below t))
    where
      go : ((t below u) ≡ true) ⊎ ((t below u) ≡ false) → ((u below t) ≡ true) ⊎ ((u below t) ≡ false) → t ≡ u
      go (inl h) k = absurd (n t (below→ h) b f)
      go (inr h) (inl k) = absurd (m u (below→ k) c g)
      go (inr h) (inr k) = omega (arith, not_below→ h, not_below→ k)

  pub gives_one : {back p q : ℕ → Bool} → GivesBack most log back p → GivesBack most log back q → p ≡ q
  gives_one (no_more m) (no_more n) = refl
  gives_one (no_more m) (one_more u c g n y) = absurd (m u c g)
  gives_one (one_more t b f m x) (no_more n) = absurd (n t b f)
  gives_one {back} {q} (one_more t b f m x) (one_more u c g n y) =
      let e : t ≡ u = lowest_one back t u b c f g m n in
      gives_one x (subst (λ (a : ℕ). GivesBack most log (back but a) q) (sym e) y)

  pub gives_within : {back rest : ℕ → Bool} → GivesBack most log back rest → Within rest back
  gives_within (no_more m) u h = h
  gives_within {back} (one_more t b f m x) u h = (but→ back t u (gives_within x u h)).0

  pub gives_right : {back rest : ℕ → Bool} → Fine most (taken_back back log) → GivesBack most log back rest → WillDo most log rest
  gives_right f (no_more m) = record { fine = f; needed = m }
  gives_right f (one_more t b g m x) = gives_right g x
