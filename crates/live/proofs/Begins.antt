-- Who had begun before a step: numbers rise, so the highest number begun until then tells it of each.
use mathlib.Core.Path.{◌≡◌, refl}
use mathlib.Core.Bool.{true, false}
use mathlib.Core.Logic.{◌⊎◌, inl, inr}
use mathlib.Core.List.{List}
use Prim.Native.Nat.{ℕ, ◌≤◌, ◌<◌}
use native.Mathlib.Omega.{arith}
use Rattle.words.specs.Tests.{◌is◌, ◌below◌, ◌upto◌, ◌and◌, some}
use Rattle.words.proofs.Truth.{decide, same_test, and→, →and, is→, →is, below→, →below, not_below→, upto→, →upto, some→, →some, some_same, lowest_is}
use Rattle.verdict.specs.Log.{steps, kind, tx, begins, begun, begin_step}
use Rattle.live.specs.SoFar.{passed}
use Rattle.live.specs.Inner.Accepted.{Accepted}
use Rattle.live.specs.Inner.Chain.{passed_by}
use Rattle.live.proofs.Grows.{Grows}

pub passed_now : (log : List ℕ) (u : ℕ) → passed_by log (steps log) u ≡ passed log u
unfolding passed_by passed
passed_now log u = refl

pub passed_same : {log log' : List ℕ} {k t x s : ℕ} → Grows log k t x s log' → (i u : ℕ) → i ≤ steps log → passed_by log' i u ≡ passed_by log i u
unfolding passed_by
passed_same g i u h = some_same i _ _ (λ (j : ℕ) (l : j < i). rw (g.kinds j (omega arith), g.txs j (omega arith)) refl)

module _ {most : ℕ} {log : List ℕ} (ok : Accepted most log) (t : ℕ) (b : begun log (steps log) t ≡ true) where
  -- the begin of t
  begins_at : (begin_step log t < steps log) × (kind log (begin_step log t) ≡ 1) × (tx log (begin_step log t) ≡ t)
  unfolding begun begin_step begins
  begins_at = let r = lowest_is (begins log t) b in let a = and→ r.1 in (r.0, is→ a.0, is→ a.1)

  pub passed_begun : (i : ℕ) → i ≤ steps log → passed_by log i t ≡ (begin_step log t below i)
  unfolding passed_by
  passed_begun i h = same_test forth (λ e. let a = begins_at in →some _ (begin_step log t) (below→ e) (→and (→is a.1) (→upto (omega (arith, a.2)))))
    where
      forth : some i (λ j. kind log j is 1 and t upto tx log j) ≡ true → (begin_step log t below i) ≡ true
      forth e = let r = some→ e in let a = and→ r.2 in go r.0 r.1 (is→ a.0) (upto→ a.1) (decide (r.0 below begin_step log t))
        where
          go : (j : ℕ) → j < i → kind log j ≡ 1 → t ≤ tx log j → ((j below begin_step log t) ≡ true) ⊎ ((j below begin_step log t) ≡ false) → (begin_step log t below i) ≡ true
          go j l k m (inl z) = let a = begins_at in let y : tx log j < tx log (begin_step log t) = ok.rise j (begin_step log t) (below→ z) a.0 k a.1 in absurd (omega (arith, a.2))
          go j l k m (inr z) = →below (omega (arith, not_below→ z))
