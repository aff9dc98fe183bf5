-- What a transaction finds when a serial order is run: the last writer before it, or 0 where there is none.
use mathlib.Core.Path.{◌≡◌, refl, sym, subst, ◌∙◌}
use mathlib.Core.Bool.{true, false, false≢true}
use mathlib.Core.Logic.{◌⊎◌, inl, inr, ⊎_elim}
use mathlib.Core.List.{List, [], ◌∷◌}
use Prim.Native.Nat.{ℕ}
use Rattle.words.specs.Tests.{◌is◌, provided◌then◌else◌}
use Rattle.words.specs.Lists.{member, distinct, before}
use Rattle.verdict.specs.Log.{writer}
use Rattle.verdict.specs.Replay.{finds}
use Rattle.words.proofs.Truth.{decide, not_both, is→, isnt→, provided_true, provided_false}
use Rattle.words.proofs.Places.{member→, before→, before_head, before_tail, before_left, distinct→, none_before_head}

-- what r finds of x: the last writer of x before r, or v where there is none
pub record Last (log : List ℕ) (x r s : ℕ) (w : List ℕ) : Type 0 where
  pub write : writer log x s ≡ true
  pub here : before s r w ≡ true
  pub last : (u : ℕ) → writer log x u ≡ true → before u r w ≡ true → (u ≡ s) ⊎ (before u s w ≡ true)

abbrev pub None : (log : List ℕ) → ℕ → ℕ → List ℕ → Type 0
None log x r w = (u : ℕ) → writer log x u ≡ true → before u r w ≡ true → ⊥

module _ (log : List ℕ) (x r t : ℕ) (w : List ℕ) where
  last_tail : (s : ℕ) → Last log x r s w → Last log x r s (t ∷ w)
  last_tail s l = record { write = l.write; here = before_tail s r t w l.here; last = λ u p b. go u p (before→ u r t w b) }
    where
      go : (u : ℕ) → writer log x u ≡ true → ((u ≡ t) × (member r w ≡ true)) ⊎ (before u r w ≡ true) → (u ≡ s) ⊎ (before u s (t ∷ w) ≡ true)
      go u p (inl k) = inr (rw k.0 (before_head t s w (before_left s r w l.here)))
      go u p (inr k) = ⊎_elim inl (λ h. inr (before_tail u s t w h)) (l.last u p k)

  last_head : writer log x t ≡ true → member r w ≡ true → None log x r w → Last log x r t (t ∷ w)
  last_head p m n = record { write = p; here = before_head t r w m; last = λ u q b. go u q (before→ u r t w b) }
    where
      go : (u : ℕ) → writer log x u ≡ true → ((u ≡ t) × (member r w ≡ true)) ⊎ (before u r w ≡ true) → (u ≡ t) ⊎ (before u t (t ∷ w) ≡ true)
      go u q (inl k) = inl k.0
      go u q (inr k) = absurd (n u q k)

  none_tail : writer log x t ≡ false → None log x r w → None log x r (t ∷ w)
  none_tail p n u q b =
      ⊎_elim (λ (k : (u ≡ t) × (member r w ≡ true)). not_both q (rw k.0 p)) (λ k. n u q k) (before→ u r t w b)

pub finds_cases : (log : List ℕ) (x r v : ℕ) (w : List ℕ) → distinct w ≡ true → member r w ≡ true
    → Last log x r (finds log x r v w) w ⊎ ((finds log x r v w ≡ v) × None log x r w)
unfolding member finds
finds_cases log x r v [] d m = absurd (false≢true m)
finds_cases log x r v (t ∷ w) d m =
    go (decide (t is r)) (decide (writer log x t)) (λ k. finds_cases log x r (provided writer log x t then t else v) w (distinct→ t w d).1 k)
  where
    v' : ℕ
    v' = provided writer log x t then t else v

    Result : ℕ → Type 0
    Result s = Last log x r s (t ∷ w) ⊎ ((s ≡ v) × None log x r (t ∷ w))

    found : (writer log x t ≡ true) ⊎ (writer log x t ≡ false) → member r w ≡ true
        → Last log x r (finds log x r v' w) w ⊎ ((finds log x r v' w ≡ v') × None log x r w) → Result (finds log x r v' w)
    found c k (inl l) = inl (last_tail log x r t w _ l)
    found (inl c) k (inr n) = inl (rw (n.0 ∙ provided_true t v c) (last_head log x r t w c k n.1))
    found (inr c) k (inr n) = inr (n.0 ∙ provided_false t v c, none_tail log x r t w c n.1)

    go : ((t is r) ≡ true) ⊎ ((t is r) ≡ false) → (writer log x t ≡ true) ⊎ (writer log x t ≡ false)
        → (member r w ≡ true → Last log x r (finds log x r v' w) w ⊎ ((finds log x r v' w ≡ v') × None log x r w))
        → Result (provided t is r then v else finds log x r v' w)
    go (inl e) c rec =
        rw (provided_true v (finds log x r v' w) e)
        (inr (refl, λ u q b. none_before_head u t w d (subst (λ (z : ℕ). before u z (t ∷ w) ≡ true) (sym (is→ e)) b)))
    go (inr e) c rec =
        let k : member r w ≡ true = ⊎_elim (λ (z : r ≡ t). absurd (isnt→ e (sym z))) (λ z. z) (member→ r t w m) in
        rw (provided_false v (finds log x r v' w) e) (found c k (rec k))
