-- A table that is filled from its first entry on.
use mathlib.Core.Path.{◌≡◌, ◌∙◌}
use mathlib.Core.Bool.{true, false}
use mathlib.Core.Logic.{◌⊎◌, inl, inr}
use mathlib.Core.List.{List}
use Prim.Native.Nat.{ℕ, ◌+◌, ◌≤◌, ◌<◌}
use native.Mathlib.Omega.{arith}
use lib.ListN.{length, get_or, set, length-set}
use lib.Seq.{ext_get_or, get_or-set_same, get_or-set_other}
use Rattle.words.specs.Tests.{◌is◌}
use Rattle.words.proofs.Truth.{decide, is→, isnt→}

-- of its n entries the first k are what f says
pub record Filled (n : ℕ) (f : ℕ → ℕ) (k : ℕ) (table : List ℕ) : Type 0 where
  pub within : k ≤ n
  pub size : length table ≡ n
  pub entry : (u : ℕ) → u < k → get_or table u 0 ≡ f u

pub filled_none : {n : ℕ} {f : ℕ → ℕ} {table : List ℕ} → length table ≡ n → Filled n f 0 table
filled_none e = record { within = omega arith; size = e; entry = λ u h. absurd (omega (arith, h)) }

table_more : (f : ℕ → ℕ) (table : List ℕ) (t v : ℕ) → t < length table → ((u : ℕ) → u < t → get_or table u 0 ≡ f u) → v ≡ f t
    → (u : ℕ) → u < t + 1 → get_or (set table t v) u 0 ≡ f u
table_more f table t v h g e u k = go (decide (u is t))
  where
    go : ((u is t) ≡ true) ⊎ ((u is t) ≡ false) → get_or (set table t v) u 0 ≡ f u
    go (inl q) = let z : u ≡ t = is→ q in rw (z, get_or-set_same table t v 0 h) e
    go (inr q) = let n : u ≡ t → ⊥ = isnt→ q in rw (get_or-set_other table t u v 0 n) (g u (omega arith))

-- one entry more
pub filled_more : {n : ℕ} {f : ℕ → ℕ} {k : ℕ} {table : List ℕ} → Filled n f k table → (v : ℕ) → k < n → v ≡ f k → Filled n f (k + 1) (set table k v)
filled_more {f} {k} {table} t v h e =
    record {
      within = omega arith;
      size = length-set table k v ∙ t.size;
      entry = table_more f table k v (omega (arith, t.size)) t.entry e;
    }

-- all entries
pub filled_all : {n : ℕ} {f : ℕ → ℕ} {k : ℕ} {table : List ℕ} → Filled n f k table → n ≤ k → (u : ℕ) → u < n → get_or table u 0 ≡ f u
filled_all t h u l = t.entry u (omega arith)

-- a copy
pub filled_copy : {n : ℕ} (list : List ℕ) {k : ℕ} {table : List ℕ} → Filled n (λ u. get_or list u 0) k table → n ≤ k → length list ≡ n → table ≡ list
filled_copy {n} list {k} {table} t h e =
    ext_get_or 0 table list (omega (arith, t.size)) (λ (u : ℕ) (l : u < length table). t.entry u (omega (arith, t.size)))
