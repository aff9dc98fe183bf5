-- Who stands before whom on a cycle: the table is filled member by member.
use mathlib.Core.Path.{◌≡◌, sym, ap, ◌∙◌}
use mathlib.Core.Bool.{true, false}
use mathlib.Core.Logic.{⊎_elim}
use mathlib.Core.List.{List}
use Prim.Native.Nat.{ℕ, zero, suc, ◌+◌, ◌-◌, ◌≤◌, ◌<◌, zero-le}
use native.Mathlib.Omega.{arith}
use lib.ListN.{length, get_or, set, replicate, length-set, length-replicate, get_or-replicate, get_or-eq_default}
use lib.Seq.{get_or-set_same, get_or-set_other}
use Rattle.words.specs.Tests.{◌is◌, ◌below◌, some}
use Rattle.words.proofs.Truth.{decide, same_test, is→, →is, isnt→, below→, not_below→, some→, none→}
use Rattle.verdict.specs.Limits.{transactions}
use Rattle.verdict.specs.Inner.Reasons.{Ring, follower, Before}
use Rattle.verdict.proofs.LeastReasons.{same_default}

-- the one before place i: before the first comes the last
unfoldable pub preceding : List ℕ → ℕ → ℕ
preceding c zero = get_or c (length c - 1) 0
preceding c (suc i) = get_or c i 0

-- the table when the first i members have been looked at, and the one that was looked at last
pub record Stood (c : List ℕ) (i last : ℕ) (table : List ℕ) : Type 0 where
  pub within : i ≤ length c
  pub size : length table ≡ suc transactions
  pub small : (b : ℕ) → b ≤ transactions → get_or table b 0 ≤ transactions
  pub last_is : last ≡ preceding c i
  pub placed : (u : ℕ) → u < i → get_or table (get_or c u 0) 0 ≡ preceding c u
  pub others : (b : ℕ) → b ≤ transactions → ((u : ℕ) → u < i → get_or c u 0 ≡ b → ⊥) → get_or table b 0 ≡ 0

module _ {c : List ℕ} (ring : Ring c) where
  pub stood_none : {last : ℕ} → last ≡ get_or c (length c - 1) 0 → Stood c 0 last (replicate (suc transactions) 0)
  unfolding preceding
  stood_none e =
      record {
        within = zero-le;
        size = length-replicate {A = ℕ} (suc transactions) 0;
        small = λ b h. rw (get_or-replicate {A = ℕ} (suc transactions) b 0 0 (omega arith)) zero-le;
        last_is = e;
        placed = λ u h. absurd (omega arith);
        others = λ b h f. get_or-replicate (suc transactions) b 0 0 (omega arith);
      }

  preceding_small : (i : ℕ) → i ≤ length c → preceding c i ≤ transactions
  unfolding preceding
  preceding_small zero h = let a : 1 ≤ length c = ring.any in ring.high (length c - 1) (omega arith)
  preceding_small (suc i) h = ring.high i (omega arith)

  pub stood_more : {i last : ℕ} {table : List ℕ} → Stood c i last table → i < length c → {t : ℕ} → t ≡ get_or c i 0 → Stood c (i + 1) t (set table t last)
  unfolding preceding
  stood_more {i} {last} {table} s h {t} e =
      record {
        within = omega arith;
        size = length-set table t last ∙ s.size;
        small = λ b k. ⊎_elim (λ q. let z : b ≡ t = is→ q in rw (z, get_or-set_same table t last 0 inside) last_small) (λ q. rw (get_or-set_other table t b last 0 (isnt→ q)) (s.small b k)) (decide (b is t));
        last_is = e ∙ ap (preceding c) next;
        placed = λ u k. ⊎_elim
            (λ q. let z : u ≡ i = is→ q in
            ap (λ (v : ℕ). get_or (set table t last) (get_or c v 0) 0) z ∙ ap (λ (v : ℕ). get_or (set table t last) v 0) (sym e) ∙ get_or-set_same table t last 0 inside ∙ s.last_is ∙ ap (preceding c) (sym z))
            (λ q. let n : u ≡ i → ⊥ = isnt→ q in
            get_or-set_other table t (get_or c u 0) last 0 (λ z. n (ring.differ u i (omega arith) h (z ∙ e))) ∙ s.placed u (omega arith))
            (decide (u is i));
        others = λ b k f. get_or-set_other table t b last 0 (λ z. f i (omega arith) (sym e ∙ sym z)) ∙ s.others b k (λ u l. f u (omega arith));
      }
    where
      next : suc i ≡ i + 1
      next = omega arith

      high : t ≤ transactions
      high = rw e (ring.high i h)

      inside : t < length table
      inside = omega (arith, high, s.size)

      last_small : last ≤ transactions
      last_small = rw s.last_is (preceding_small i s.within)

  -- when all members have been looked at
  pub stood_all : {i last : ℕ} {table : List ℕ} → Stood c i last table → i ≡ length c → Before c table
  unfolding follower preceding
  stood_all {i = n} {last} {table} s e = record { within = s.small; stands = λ i b h k. same_test (there i b h k) (back i b h k) }
    where
      there : (i b : ℕ) → i < length c → b ≤ transactions → (get_or table b 0 is get_or c i 0) ≡ true → (b is get_or c (suc i) (get_or c 0 0)) ≡ true
      there i b h k q = ⊎_elim found missing (decide (some n (λ u. get_or c u 0 is b)))
        where
          same : get_or table b 0 ≡ get_or c i 0
          same = is→ q

          missing : some n (λ u. get_or c u 0 is b) ≡ false → (b is get_or c (suc i) (get_or c 0 0)) ≡ true
          missing f =
              let z : get_or table b 0 ≡ 0 = s.others b k (λ u l. isnt→ (none→ _ f u l)) in
              let low : 1 ≤ get_or c i 0 = ring.low i h in
              absurd (omega (arith, same))

          at : (u : ℕ) → u < n → get_or c u 0 ≡ b → (b is get_or c (suc i) (get_or c 0 0)) ≡ true
          at zero l f =
              let g : get_or c (length c - 1) 0 ≡ get_or c i 0 = sym (s.placed 0 l) ∙ ap (λ (v : ℕ). get_or table v 0) f ∙ same in
              let j : length c - 1 ≡ i = ring.differ (length c - 1) i (omega arith) h g in
              →is (sym f ∙ sym (get_or-eq_default c (get_or c 0 0) (omega arith)))
          at (suc v) l f =
              let g : get_or c v 0 ≡ get_or c i 0 = sym (s.placed (suc v) l) ∙ ap (λ (u : ℕ). get_or table u 0) f ∙ same in
              let j : v ≡ i = ring.differ v i (omega arith) h g in
              →is (sym f ∙ ap (λ (u : ℕ). get_or c (suc u) 0) j ∙ sym (same_default c (get_or c 0 0) (suc i) (omega arith)))

          found : some n (λ u. get_or c u 0 is b) ≡ true → (b is get_or c (suc i) (get_or c 0 0)) ≡ true
          found f = let r = some→ f in at r.0 r.1 (is→ r.2)

      back : (i b : ℕ) → i < length c → b ≤ transactions → (b is get_or c (suc i) (get_or c 0 0)) ≡ true → (get_or table b 0 is get_or c i 0) ≡ true
      back i b h k q = ⊎_elim inner outer (decide (suc i below length c))
        where
          inner : (suc i below length c) ≡ true → (get_or table b 0 is get_or c i 0) ≡ true
          inner l =
              let f : b ≡ get_or c (suc i) 0 = is→ q ∙ same_default c (get_or c 0 0) (suc i) (below→ l) in
              let g : suc i < length c = below→ l in
              →is (ap (λ (u : ℕ). get_or table u 0) f ∙ s.placed (suc i) (omega arith))

          outer : (suc i below length c) ≡ false → (get_or table b 0 is get_or c i 0) ≡ true
          outer l =
              let g : length c ≤ suc i = not_below→ l in
              let f : b ≡ get_or c 0 0 = is→ q ∙ get_or-eq_default c (get_or c 0 0) g in
              let j : length c - 1 ≡ i = omega arith in
              →is (ap (λ (u : ℕ). get_or table u 0) f ∙ s.placed 0 (omega arith) ∙ ap (λ (u : ℕ). get_or c u 0) j)
