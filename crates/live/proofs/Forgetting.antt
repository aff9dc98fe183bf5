-- Forgetting until nothing more can go has one result, whatever the order; the rounds of the definition bring it.
use mathlib.Core.Path.{◌≡◌, refl, sym, ◌∙◌}
use mathlib.Core.Bool.{Bool, true, false}
use mathlib.Core.Logic.{◌⊎◌, inl, inr, ⊎_elim}
use mathlib.Core.List.{List}
use Prim.Native.Nat.{ℕ, zero, suc, ◌+◌, ◌≤◌, ◌<◌}
use native.Mathlib.Omega.{arith}
use Rattle.words.specs.Tests.{◌is◌, ◌below◌, ◌and◌, fails, some, count}
use Rattle.words.proofs.Truth.{decide, not_both, to_false, same_test, and→, →and, and_no_left, and_true_right, fails→, →fails, is→, →isnt, isnt→, below→, →below, →not_below, some→, none→, →none, count_without, none_counted}
use Rattle.words.proofs.Counting.{count_most, count_fewer}
use Rattle.verdict.specs.Log.{committed}
use Rattle.verdict.specs.Version.{version_edge}
use Rattle.live.specs.SoFar.{so_far}
use Rattle.live.specs.Forgotten.{overlapped, pointed_at, may_go, left, kept, Forgets, none_gone, one_gone, Rests}

-- who may go may go where fewer are kept
pub may_go_fewer : (most : ℕ) (log : List ℕ) (keeps keeps' : ℕ → Bool) → ((u : ℕ) → keeps' u ≡ true → keeps u ≡ true) → (t : ℕ) → may_go most log keeps t ≡ true → may_go most log keeps' t ≡ true
unfolding may_go pointed_at
may_go_fewer most log keeps keeps' f t m =
    let a = and→ m in
    →and a.0 (→fails (→none _ (λ p l. to_false _ (λ h. not_both (→and (f p (and→ h).0) (and→ h).1) (none→ _ (fails→ a.1) p l)))))

module _ {most : ℕ} {log : List ℕ} where
  -- who is kept has committed
  pub forgets_committed : {keeps : ℕ → Bool} → Forgets most log keeps → (u : ℕ) → keeps u ≡ true → committed log u ≡ true
  forgets_committed (none_gone e) u k = sym (e u) ∙ k
  forgets_committed (one_gone t f m e) u k = forgets_committed f u (and→ (sym (e u) ∙ k)).0

  -- all that overlapped one forgotten have ended
  pub forgotten_free : {keeps : ℕ → Bool} → Forgets most log keeps → (u : ℕ) → committed log u ≡ true → keeps u ≡ false → overlapped most log u ≡ false
  unfolding may_go
  forgotten_free (none_gone e) u c k = absurd (not_both c (sym (e u) ∙ k))
  forgotten_free (one_gone {keeps = before} t f m e) u c k = go (decide (before u)) (decide (u is t)) (λ q. forgotten_free f u c q)
    where
      go : (before u ≡ true) ⊎ (before u ≡ false) → ((u is t) ≡ true) ⊎ ((u is t) ≡ false) → (before u ≡ false → overlapped most log u ≡ false) → overlapped most log u ≡ false
      go (inr b) i rec = rec b
      go (inl b) (inl i) rec = let z : u ≡ t = is→ i in rw z (fails→ (and→ m).0)
      go (inl b) (inr i) rec = absurd (not_both (→and b (→fails i)) (sym (e u) ∙ k))

  -- whom one kept has an edge to is kept
  pub edges_kept : {keeps : ℕ → Bool} → Forgets most log keeps → (p t : ℕ) → p ≤ most → keeps p ≡ true → version_edge (so_far most log) p t ≡ true → committed log t ≡ true → keeps t ≡ true
  unfolding may_go pointed_at
  edges_kept (none_gone e) p t l k g c = e t ∙ c
  edges_kept (one_gone u f m e) p t l k g c =
      let b = (and→ (sym (e p) ∙ k)).0 in
      e t ∙ →and (edges_kept f p t l b g c) (→fails (→isnt (λ (z : t ≡ u). not_both (→and b (rw z at g)) (none→ _ (fails→ (and→ m).1) p (omega arith)))))

  -- THE ORDER OF FORGETTING IS IMMATERIAL
  -- where nothing more can go, nobody is kept whom another order forgets
  within : {a b : ℕ → Bool} → Forgets most log a → Rests most log a → Forgets most log b → (u : ℕ) → a u ≡ true → b u ≡ true
  within f r (none_gone e) u k = e u ∙ forgets_committed f u k
  within {a} f r (one_gone {keeps = before} t g m e) u k =
      e u ∙ →and (within f r g u k) (→fails (→isnt (λ (z : u ≡ t). not_both (may_go_fewer most log before a (within f r g) t m) (r t (rw z at k)))))

  pub one_result : {a b : ℕ → Bool} → Forgets most log a → Rests most log a → Forgets most log b → Rests most log b → (u : ℕ) → a u ≡ b u
  one_result f r g s u = same_test (within f r g u) (within g s f u)

  -- the same are kept
  pub forgets_same : {a b : ℕ → Bool} → Forgets most log a → ((u : ℕ) → b u ≡ a u) → Forgets most log b
  forgets_same (none_gone e) d = none_gone (λ u. d u ∙ e u)
  forgets_same (one_gone t f m e) d = one_gone t f m (λ u. d u ∙ e u)

-- THE ROUNDS
module _ (most : ℕ) (log : List ℕ) where
  -- those left after k rounds, and who goes in the next
  abbrev rest : ℕ → ℕ → Bool
  rest = left most log

  abbrev goes : ℕ → ℕ → Bool
  goes k = may_go most log (rest k)

  left_committed : (k u : ℕ) → rest k u ≡ true → committed log u ≡ true
  unfolding left
  left_committed zero u h = h
  left_committed (suc k) u h = left_committed k u (and→ h).0

  -- where nothing more can go it stays so
  rests_on : (k : ℕ) → Rests most log (rest k) → Rests most log (rest (suc k))
  unfolding left
  rests_on k r t h = to_false _ (λ m. not_both (may_go_fewer most log (rest (suc k)) (rest k) (λ u q. →and q (→fails (r u q))) t m) (r t (and→ h).0))

  -- a round that forgets somebody leaves fewer
  round_fewer : (k t : ℕ) → t < suc most → rest k t ≡ true → goes k t ≡ true → count (suc most) (rest (suc k)) < count (suc most) (rest k)
  unfolding left
  round_fewer k t l h m =
      let c : suc (count (suc most) (λ u. rest k u and fails (u is t))) ≡ count (suc most) (rest k) = count_without (suc most) (rest k) t l h in
      let d : count (suc most) (rest (suc k)) ≤ count (suc most) (λ u. rest k u and fails (u is t)) =
      count_fewer (suc most) _ _ (λ u i q. let g : goes k u ≡ false = fails→ (and→ q).1 in →and (and→ q).0 (→fails (→isnt (λ (z : u ≡ t). not_both m (rw z at g))))) in
      omega arith

  -- a round forgets one after another: those that are left when it has come to n
  taking : (k n u : ℕ) → Bool
  taking k n u = rest k u and fails (u below n and goes k u)

  taking_forgets : (k n : ℕ) → Forgets most log (rest k) → Forgets most log (taking k n)
  unfolding taking
  taking_forgets k zero f = forgets_same f (λ u. and_true_right _ (→fails (and_no_left _ (→not_below (omega arith)))))
  taking_forgets k (suc n) f = go (decide (goes k n)) (taking_forgets k n f)
    where
      earlier : (u : ℕ) → (u below suc n and goes k u) ≡ true → (u ≡ n → ⊥) → (u below n and goes k u) ≡ true
      earlier u q d = let l : u < suc n = below→ (and→ q).0 in →and (→below (omega arith)) (and→ q).1

      none_yet : (u : ℕ) → (u below suc n and goes k u) ≡ false → (u below n and goes k u) ≡ false
      none_yet u q = to_false _ (λ h. not_both (→and (→below (let l : u < n = below→ (and→ h).0 in omega arith)) (and→ h).1) q)

      go : (goes k n ≡ true) ⊎ (goes k n ≡ false) → Forgets most log (taking k n) → Forgets most log (taking k (suc n))
      go (inl m) g =
          one_gone n g (may_go_fewer most log (rest k) (taking k n) (λ u h. (and→ h).0) n m) (λ u. same_test
          (λ h. let q = fails→ (and→ h).1 in →and (→and (and→ h).0 (→fails (none_yet u q))) (→fails (→isnt (λ (z : u ≡ n). not_both (→and (→below (omega arith)) (rw z m)) q))))
          (λ h. let p = and→ (and→ h).0 in →and p.0 (→fails (to_false _ (λ q. not_both (earlier u q (isnt→ (fails→ (and→ h).1))) (fails→ p.1))))))
      go (inr m) g =
          forgets_same g (λ u. same_test (λ h. →and (and→ h).0 (→fails (none_yet u (fails→ (and→ h).1))))
          (λ h. →and (and→ h).0 (→fails (to_false _ (λ q. not_both (earlier u q (λ (z : u ≡ n). not_both (and→ q).1 (rw z m))) (fails→ (and→ h).1))))))

  module _ (few : (u : ℕ) → committed log u ≡ true → u ≤ most) where
    left_few : (k u : ℕ) → rest k u ≡ true → u < suc most
    left_few k u h = let l : u ≤ most = few u (left_committed k u h) in omega arith

    -- after k rounds nothing more can go, or each has forgotten one at least
    rounds : (k : ℕ) → Rests most log (rest k) ⊎ (count (suc most) (rest k) + k ≤ suc most)
    rounds zero = inr (omega (arith, count_most (suc most) (rest 0)))
    rounds (suc k) = go (rounds k) (decide (some (suc most) (λ t. rest k t and goes k t)))
      where
        go : Rests most log (rest k) ⊎ (count (suc most) (rest k) + k ≤ suc most)
            → (some (suc most) (λ t. rest k t and goes k t) ≡ true) ⊎ (some (suc most) (λ t. rest k t and goes k t) ≡ false)
            → Rests most log (rest (suc k)) ⊎ (count (suc most) (rest (suc k)) + suc k ≤ suc most)
        go (inl r) d = inl (rests_on k r)
        go (inr l) (inl s) = let r = some→ s in inr (omega (arith, round_fewer k r.0 r.1 (and→ r.2).0 (and→ r.2).1))
        go (inr l) (inr n) = inl (rests_on k (λ t h. to_false _ (λ m. not_both (→and h m) (none→ _ n t (left_few k t h)))))

    pub kept_rests : Rests most log (kept most log)
    unfolding kept
    kept_rests t h = ⊎_elim (λ r. r t h) (λ l. absurd (not_both h (none_counted (suc most) (rest (suc most)) (omega arith) t (left_few (suc most) t h)))) (rounds (suc most))

    left_forgets : (k : ℕ) → Forgets most log (rest k)
    unfolding left taking
    left_forgets zero = none_gone (λ u. refl)
    left_forgets (suc k) =
        forgets_same (taking_forgets k (suc most) (left_forgets k)) (λ u. same_test
        (λ h. →and (and→ h).0 (→fails (to_false _ (λ q. not_both (and→ q).1 (fails→ (and→ h).1)))))
        (λ h. →and (and→ h).0 (→fails (to_false _ (λ m. not_both (→and (→below (left_few k u (and→ h).0)) m) (fails→ (and→ h).1))))))

    pub kept_forgets : Forgets most log (kept most log)
    unfolding kept
    kept_forgets = left_forgets (suc most)

    -- what any order of forgetting comes to is what the rounds come to
    pub kept_result : {keeps : ℕ → Bool} → Forgets most log keeps → Rests most log keeps → (u : ℕ) → keeps u ≡ kept most log u
    kept_result f r = one_result f r kept_forgets kept_rests
