-- A serial order has every committed transaction once, and nothing else.
use mathlib.Core.Path.{◌≡◌}
use mathlib.Core.Bool.{true}
use mathlib.Core.List.{List}
use Prim.Native.Nat.{ℕ, suc, ◌<◌}
use native.Mathlib.Omega.{arith}
use Rattle.words.specs.Lists.{member, distinct}
use Rattle.graph.specs.Order.{once_each}
use Rattle.verdict.specs.Log.{committed}
use Rattle.verdict.specs.Replay.{serial}
use Rattle.words.proofs.Truth.{and→, →and, implies→, →implies, →below, every→, →every}
use Rattle.words.proofs.Places.{all→, →all}
use Rattle.verdict.proofs.WellFormed.{Well}
use Rattle.verdict.proofs.Versions.{committed_range}

module _ {most : ℕ} (log : List ℕ) (well : Well most log) (w : List ℕ) where
  pub serial_distinct : serial most log w ≡ true → distinct w ≡ true
  unfolding serial once_each
  serial_distinct s = (and→ (and→ s).0).0

  pub serial_committed : serial most log w ≡ true → (t : ℕ) → member t w ≡ true → committed log t ≡ true
  unfolding serial once_each
  serial_committed s t m = (and→ (all→ _ w (and→ (and→ s).0).1 t m)).1

  pub serial_member : serial most log w ≡ true → (t : ℕ) → committed log t ≡ true → member t w ≡ true
  unfolding serial once_each
  serial_member s t c = implies→ (every→ _ (and→ s).1 t (omega (arith, (committed_range log well t c).1))) c

  -- and such a list is a serial order
  pub →serial : distinct w ≡ true → ((t : ℕ) → member t w ≡ true → committed log t ≡ true) → ((t : ℕ) → committed log t ≡ true → member t w ≡ true) → serial most log w ≡ true
  unfolding serial once_each
  →serial d f g =
      →and (→and d (→all _ w (λ t m. →and (→below (omega (arith, (committed_range log well t (f t m)).1))) (f t m)))) (→every _ (λ (t : ℕ) (h : t < suc most). →implies (g t)))
