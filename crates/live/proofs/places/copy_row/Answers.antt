-- `copy_row` meets its contract.
use mathlib.Core.Path.{◌≡◌, ap, ◌∙◌}
use mathlib.Core.Logic.{◌⊎◌, inl, inr, ⊎_elim}
use native.Mathlib.Omega.{arith}
use Prim.Native.Nat.{◌+◌, ◌-◌, ◌*◌, ◌<◌, ◌≤◌}
use lib.ListN.{get_or}
use Rattle.words.specs.Tests.{◌below◌}
use Rattle.words.proofs.Truth.{decide, below→, not_below→}
use Rattle.live.specs.Inner.Table.{cell, sees_at}
use Rattle.live.proofs.places.copy_row.Goals as goal

pub returns : goal.returns
unfolding cell sees_at
returns c =
    let rows = c.args.rows.now in
    let p = c.args.p in
    let by = c.copy_within.ensures.by_index in
    record {
      size = c.copy_within.ensures.len;
      copied = λ x l.
          let same : 2 + (p * 67 + (2 + x) - (p * 67 + 2)) ≡ 0 * 67 + (2 + x) = omega arith in
          by.0 (p * 67 + (2 + x)) 0 (omega arith) (omega arith) ∙ ap (λ i. get_or rows i 0) same;
      others = λ q d h l n.
          let side : (q * 67 + d < p * 67 + 2) ⊎ (p * 67 + 2 + 64 ≤ q * 67 + d) = ⊎_elim (λ k. inl (omega (arith, below→ k))) (λ k. inr (omega (arith, not_below→ k, n))) (decide (q below p)) in
          ⊎_elim (λ k. by.1 (q * 67 + d) 0 k) (λ k. by.2 (q * 67 + d) 0 (omega arith)) side;
    }
