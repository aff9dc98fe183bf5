-- The lowest vertex, from `start` on, with which an order of what is left may begin; 129 stands for none.
use mathlib.Core.Path.{◌≡◌, sym, subst}
use mathlib.Core.Bool.{true, false}
use mathlib.Core.List.{List}
use Prim.Native.Nat.{ℕ, suc, ◌≤◌, ◌<◌}
use Rattle.std.specs.Prelude.{Option, Some, None, MatchOption}
use lib.ListN.{length}
use native.Mathlib.Omega.{arith}
use Rattle.words.specs.Tests.{◌upto◌, ◌and◌, count, lowest}
use Rattle.graph.specs.Matrix.{takes_part}
use Rattle.graph.specs.Inner.Peel.{may_begin, unmarked}
use Rattle.graph.specs.Inner.Finding.{LowestOf}
use Rattle.words.proofs.Truth.{not_both, to_false, and→, →and, upto→, →upto, →none, lowest_is, lowest_at, lowest_le, lowest_passes}
use Rattle.graph.proofs.Peel.{free→}
use Rattle.graph.proofs.Marks.{Part, part→}
use Rattle.graph.proofs.Sized.{part_less}

pub record Lowest (m left : List ℕ) (start v : ℕ) : Type 0 where
  pub begins : may_begin m left v ≡ true
  pub from : start ≤ v
  pub vertex : Part 128 left v
  pub least : (t : ℕ) → may_begin m left t ≡ true → start ≤ t → v ≤ t

module _ (m left : List ℕ) (start v : ℕ) (is_lowest : v ≡ lowest 129 (λ t. start upto t and may_begin m left t)) where
  at_most : (t : ℕ) → may_begin m left t ≡ true → start ≤ t → v ≤ t
  at_most t b l = subst (λ (z : ℕ). z ≤ t) (sym is_lowest) (lowest_le _ t (free→ b).bound (→and (→upto l) b))

  pub lowest→ : v ≤ 128 → Lowest m left start v
  lowest→ h =
      let low : lowest 129 (λ t. start upto t and may_begin m left t) < 129 = omega arith in
      let r = lowest_is _ (lowest_passes (λ t. start upto t and may_begin m left t) low) in
      let e = and→ (subst (λ (z : ℕ). (start upto z and may_begin m left z) ≡ true) (sym is_lowest) r.1) in
      record { begins = e.1; from = upto→ e.0; vertex = part→ 128 left v (free→ e.1).is_node; least = at_most }

  pub none_begins : 128 < v → (t : ℕ) → start ≤ t → may_begin m left t ≡ false
  none_begins h t l = to_false _ (λ b. let z : v ≤ t = at_most t b l in let y : t < 129 = (free→ b).bound in omega arith)

  -- without its mark one vertex less is left
  pub lowest_less : length left ≡ 2 → v ≤ 128 → count 129 (takes_part 128 left) ≡ suc (count 129 (takes_part 128 (unmarked v left)))
  lowest_less size h = part_less 128 m left (omega arith) v (free→ (lowest→ h).begins).is_node

-- the first that passes of those from `start` on
pub lowest_from : (m left : List ℕ) (start : ℕ) (r : Option ℕ)
    → MatchOption r ((k : ℕ) → start ≤ k → k < 129 → may_begin m left k ≡ false) (λ v. (start ≤ v) × (v < 129) × (may_begin m left v ≡ true) × ((k : ℕ) → start ≤ k → k < v → may_begin m left k ≡ false))
    → LowestOf (λ v. start upto v and may_begin m left v) r
lowest_from m left start None h = →none _ (λ k l. to_false _ (λ q. not_both (and→ q).1 (h k (upto→ (and→ q).0) l)))
lowest_from m left start (Some v) (from, bound, begins, others) =
    record {
      high = omega arith;
      one = →and (→upto from) begins;
      first = sym (lowest_at _ v bound (→and (→upto from) begins) (λ j l. to_false _ (λ q. not_both (and→ q).1 (others j (upto→ (and→ q).0) l))));
    }
