-- A closed walk is a cycle: that the edges lead from somebody back to itself is that there is a cycle.
use mathlib.Core.Path.{◌≡◌}
use mathlib.Core.Bool.{Bool, true, false≢true}
use mathlib.Core.Logic.{◌⊎◌, inl, inr, ⊎_elim}
use mathlib.Core.List.{List, [], ◌∷◌, ◌++◌}
use Prim.Native.Nat.{ℕ, zero, suc, ◌+◌, ◌<◌}
use native.Mathlib.Omega.{arith}
use lib.ListN.{length, length-append}
use Rattle.words.specs.Tests.{◌and◌, some, count}
use Rattle.words.proofs.Truth.{and→, →and, or→, →or_left, →or_right, some→, →some}
use Rattle.graph.specs.Cycle.{leads, is_cycle}
use Rattle.graph.proofs.Judge.{nodes, nodes_length, cycle_length}
use Rattle.graph.proofs.Walks.{leads_join, closed_cycle}
use Rattle.live.specs.Closed.{walk, round}

module _ (edge : ℕ → ℕ → Bool) (n : ℕ) (node : ℕ → Bool) (few : count n node < n)
    (starts : (a b : ℕ) → edge a b ≡ true → (a < n) × (node a ≡ true)) (arrives : (a b : ℕ) → edge a b ≡ true → (b < n) × (node b ≡ true)) (no_loop : (a : ℕ) → edge a a ≡ true → ⊥) where
  -- A WALK IS A LIST
  walk→ : (k a b : ℕ) → walk edge n k a b ≡ true → (p : List ℕ) × (length p < k) × (leads edge b (a ∷ p) ≡ true)
  unfolding walk
  walk→ zero a b h = absurd (false≢true h)
  walk→ (suc k) a b h = go (or→ h) (walk→ k a)
    where
      go : (edge a b ≡ true) ⊎ (some n (λ c. walk edge n k a c and edge c b) ≡ true) → ((c : ℕ) → walk edge n k a c ≡ true → (p : List ℕ) × (length p < k) × (leads edge c (a ∷ p) ≡ true))
          → (p : List ℕ) × (length p < suc k) × (leads edge b (a ∷ p) ≡ true)
      go (inl e) rec = ([], omega arith, unfold leads in e)
      go (inr s) rec =
          let t = some→ s in
          let r = rec t.0 (and→ t.2).0 in
          let p : List ℕ = r.0 in
          let z : length (p ++ t.0 ∷ []) ≡ length p + 1 = length-append p (t.0 ∷ []) in
          (p ++ t.0 ∷ [], omega (arith, r.1), leads_join edge b (a ∷ p) t.0 [] r.2 (unfold leads in (and→ t.2).1))

  before : (k a c b : ℕ) → edge a c ≡ true → walk edge n k c b ≡ true → walk edge n (suc k) a b ≡ true
  unfolding walk
  before zero a c b e h = absurd (false≢true h)
  before (suc k) a c b e h =
      ⊎_elim (λ q. →or_right _ (→some _ c (arrives a c e).0 (→and (→or_left _ e) q)))
      (λ q. let t = some→ q in →or_right _ (→some _ t.0 t.1 (→and (before k a c t.0 e (and→ t.2).0) (and→ t.2).1))) (or→ h)

  longer : (k a b : ℕ) → walk edge n k a b ≡ true → walk edge n (suc k) a b ≡ true
  unfolding walk
  longer zero a b h = absurd (false≢true h)
  longer (suc k) a b h =
      ⊎_elim (λ e. →or_left _ e) (λ q. let t = some→ q in →or_right _ (→some _ t.0 t.1 (→and (longer k a t.0 (and→ t.2).0) (and→ t.2).1))) (or→ h)

  →walk : (k a b : ℕ) (p : List ℕ) → length p < k → leads edge b (a ∷ p) ≡ true → walk edge n k a b ≡ true
  unfolding leads
  →walk zero a b p l h = absurd (omega arith)
  →walk (suc k) a b [] l h = unfold walk in (→or_left _ h)
  →walk (suc k) a b (c ∷ p) l h = before k a c b (and→ h).0 (→walk k c b p (omega arith) (and→ h).1)

  -- A CLOSED WALK IS A CYCLE
  pub round_cycle : round edge n ≡ true → (c : List ℕ) × (is_cycle edge c ≡ true)
  unfolding round
  round_cycle h =
      let t = some→ h in
      let r = walk→ n t.0 t.0 t.2 in
      let c = closed_cycle edge no_loop n t.0 r.0 r.1 r.2 in
      (c.0, c.1)

  leads_in : (home a : ℕ) (p : List ℕ) → leads edge home (a ∷ p) ≡ true → a < n
  unfolding leads
  leads_in home a [] h = (starts a home h).0
  leads_in home a (b ∷ p) h = (starts a b (and→ h).0).0

  pub cycle_round : (c : List ℕ) → is_cycle edge c ≡ true → round edge n ≡ true
  unfolding is_cycle round
  cycle_round [] h = absurd (false≢true h)
  cycle_round (a ∷ c) h =
      let l : length (a ∷ c) < suc (length (nodes n node)) = cycle_length n node edge starts (a ∷ c) h in
      let e : length (nodes n node) ≡ count n node = nodes_length n node in
      →some _ a (leads_in a a c (and→ h).1) (→walk n a a c (omega arith) (and→ h).1)
