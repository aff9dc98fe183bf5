-- An order has as many members as vertices take part, and a cycle at most so many; a graph that has an order has no cycle.
use mathlib.Core.Path.{◌≡◌, sym, ap, ◌∙◌}
use mathlib.Core.Bool.{true}
use mathlib.Core.List.{List, [], ◌∷◌}
use Prim.Native.Nat.{ℕ, suc, ◌≤◌, ◌*◌}
use native.Mathlib.Omega.{arith}
use lib.ListN.{length}
use Rattle.words.specs.Tests.{count}
use Rattle.words.specs.First.{Never}
use Rattle.graph.specs.Order.{is_order}
use Rattle.graph.specs.Cycle.{is_cycle}
use Rattle.graph.specs.Matrix.{takes_part, joined, matrix_order}
use Rattle.graph.specs.Inner.Peel.{unmarked}
use Rattle.words.proofs.Truth.{and→, fails→, count_none, count_above}
use Rattle.graph.proofs.Peel.{free→, order→, count_without}
use Rattle.graph.proofs.Marks.{size_unmarked, zero_out, part→, ends, parts_without, matrix_peel, matrix_none}
use Rattle.graph.proofs.Exclude.{no_cycle}
use Rattle.graph.proofs.Judge.{nodes_length, cycle_length}

module _ (n : ℕ) (m : List ℕ) where
  -- one vertex less takes part where a mark is taken away
  pub part_less : (part : List ℕ) → n ≤ 64 * length part → (v : ℕ) → takes_part n part v ≡ true → count (suc n) (takes_part n part) ≡ suc (count (suc n) (takes_part n (unmarked v part)))
  part_less part long v h =
      let p = part→ n part v h in
      let z : v ≤ n = p.high in
      rw (parts_without n m part long v p.low p.high) (count_without (suc n) (takes_part n part) v (omega arith) h)

  pub order_size : (part v : List ℕ) → n ≤ 64 * length part → matrix_order n m part v ≡ true → length v ≡ count (suc n) (takes_part n part)
  order_size part [] long h = sym (count_none (suc n) (takes_part n part) (fails→ (sym (matrix_none n m part) ∙ h)))
  order_size part (a ∷ v) long h =
      let r = and→ (sym (matrix_peel n m part long a v) ∙ h) in
      ap suc (order_size (unmarked a part) v (rw (size_unmarked a part) long) r.1) ∙ sym (part_less part long a (free→ r.0).is_node)

  pub most : (part : List ℕ) → count (suc n) (takes_part n part) ≤ n
  most part = count_above n (takes_part n part) (zero_out n part)

  pub order_acyclic : (part v : List ℕ) → matrix_order n m part v ≡ true → Never (is_cycle (joined n m part))
  unfolding matrix_order is_order
  order_acyclic part v h =
      let o = order→ (suc n) (takes_part n part) (joined n m part) v h in
      no_cycle (joined n m part) v o.different (and→ h).1 (λ a b e. let q = ends n m part a b e in o.whole a q.0 q.1)

  pub cycle_size : (part c : List ℕ) → is_cycle (joined n m part) c ≡ true → length c ≤ n
  cycle_size part c h = omega (arith, cycle_length (suc n) (takes_part n part) (joined n m part) (ends n m part) c h, nodes_length (suc n) (takes_part n part), most part)
