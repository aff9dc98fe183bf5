-- A transaction of a well_formed log that writes has aborted exactly when it has not committed.
use mathlib.Core.Path.{◌≡◌, sym, ◌∙◌}
use mathlib.Core.Bool.{true, false}
use mathlib.Core.Logic.{◌⊎◌, inl, inr, ⊎_elim}
use mathlib.Core.List.{List}
use Prim.Native.Nat.{ℕ, ◌≤◌, ◌<◌}
use native.Mathlib.Omega.{arith}
use Rattle.words.specs.Tests.{◌below◌, fails}
use Rattle.words.proofs.Truth.{decide, to_false, not_both, and→, or→, →or_left, →or_right, →fails, →not_fails, is→, below→, not_below→, some→, →some}
use Rattle.verdict.specs.Limits.{transactions}
use Rattle.verdict.specs.Log.{steps, kind, tx, writes, commits, aborts, begun, ended, committed, aborted, writer}
use Rattle.verdict.specs.Refusal.{log_refusal}
use Rattle.verdict.specs.Answers.{Passed}
use Rattle.verdict.proofs.WellFormed.{ends_once, ends, has_begun}

module _ (log : List ℕ) (well : log_refusal log ≡ Passed) (t : ℕ) where
  -- it does not end both ways
  one_end : committed log t ≡ true → aborted log t ≡ false
  unfolding committed aborted commits aborts
  one_end c = to_false _ (λ a. let p = some→ c in let q = some→ a in apart p.0 q.0 p.1 q.1 p.2 q.2 (decide (p.0 below q.0)))
    where
      apart : (i j : ℕ) → i < steps log → j < steps log → commits log t i ≡ true → aborts log t j ≡ true → ((i below j) ≡ true) ⊎ ((i below j) ≡ false) → ⊥
      apart i j h k p q (inl b) = ends_once log well t i j (below→ b) k (→or_left _ p) (→or_right _ q)
      apart i j h k p q (inr b) =
          let four : kind log i ≡ 4 = is→ (and→ p).0 in
          let five : kind log j ≡ 5 = is→ (and→ q).0 in
          ends_once log well t j i (omega (arith, not_below→ b, differ i j four five)) h (→or_right _ q) (→or_left _ p)
        where
          differ : (m n : ℕ) → kind log m ≡ 4 → kind log n ≡ 5 → m ≡ n → ⊥
          differ m n a f e = let z : kind log n ≡ 4 = rw e at a in omega arith

  -- .. and it ends
  some_end : (x : ℕ) → t ≤ transactions → writer log x t ≡ true → committed log t ≡ false → aborted log t ≡ true
  unfolding writer writes committed aborted ended
  some_end x h w n =
      let r = some→ w in
      let of = and→ (and→ r.2).0 in
      let k : kind log r.0 ≡ 3 = is→ of.0 in
      let e : tx log r.0 ≡ t = is→ of.1 in
      let b : begun log (steps log) t ≡ true = rw e at (has_begun log well r.0 r.1 (λ (z : kind log r.0 ≡ 1). omega arith)) in
      let f = some→ (ends log well t h b) in
      ⊎_elim (λ (c : commits log t f.0 ≡ true). absurd (not_both (→some _ f.0 f.1 c) n)) (λ (a : aborts log t f.0 ≡ true). →some _ f.0 f.1 a) (or→ f.2)

  pub aborted_else : (x : ℕ) → t ≤ transactions → writer log x t ≡ true → aborted log t ≡ fails (committed log t)
  aborted_else x h w = go (decide (committed log t))
    where
      go : (committed log t ≡ true) ⊎ (committed log t ≡ false) → aborted log t ≡ fails (committed log t)
      go (inl c) = one_end c ∙ sym (→not_fails c)
      go (inr c) = some_end x h w c ∙ sym (→fails c)
