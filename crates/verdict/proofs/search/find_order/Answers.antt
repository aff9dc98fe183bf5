-- `find_order` meets its contract.
use mathlib.Core.Path.{sym, subst}
use Prim.Native.Nat.{ℕ, ◌≤◌}
use native.Mathlib.Omega.{arith}
use lib.Seq.{length-take-le}
use Rattle.bits.proofs.Marks.{power_above}
use Rattle.verdict.specs.Limits.{transactions}
use Rattle.verdict.proofs.Threes.{held}
use Rattle.verdict.proofs.Memberless.{holds_none}
use Rattle.verdict.proofs.Versions.{committed_range}
use Rattle.verdict.proofs.WellFormed.{well_formed}
use Rattle.verdict.proofs.Searching.{few_enough, nothing_placed, nobody_placed, order_found, none_found}
use borrow.Author.Rules.{rules}
use Rattle.verdict.proofs.search.find_order.Goals as goal

pub returns-then-left-eq0 : goal.returns-then-left-eq0
returns-then-left-eq0 c =
    let q = c.requires in
    nobody_placed q.0 q.1 (rw c.if-left-eq0.true at c.list_committed-all.ensures) c.without_members.ensures

pub all_needed-asks-requires : goal.all_needed-asks-requires
all_needed-asks-requires c =
    let q = c.requires in
    let list = c.list_committed-all.ensures in
    (few_enough _ list q.0 q.2, λ i h. (committed_range _ (well_formed _ q.0) _ (list.each i h)).1)

pub overflow_shl-every_place : goal.overflow_shl-every_place
overflow_shl-every_place c = let q = c.requires in omega (arith, few_enough _ c.list_committed-all.ensures q.0 q.2)

pub overflow_sub-every_place : goal.overflow_sub-every_place
overflow_sub-every_place c =
    let q = c.requires in
    power_above _ (omega (arith, few_enough _ c.list_committed-all.ensures q.0 q.2))

pub place-found-requires : goal.place-found-requires
place-found-requires c =
    let q = c.requires in
    let list = c.list_committed-all.ensures in
    let few = few_enough _ list q.0 q.2 in (
      record {
        passed = q.0;
        clean = q.1;
        needs = c.need_table-need.ensures;
        written = q.4;
        list = list;
        asked = c.all_needed-asks.ensures;
        few = few;
      },
      nothing_placed _ _ few,
      search rules,
    )

pub returns-then-not-found : goal.returns-then-not-found
returns-then-not-found c =
    holds_none (none_found _ _ _ c.requires.1 (rw c.if-not-found.true at c.place-found.ensures.0))
    c.without_members-then-not-found.ensures

-- the order has room for all that the search takes
pub slice_bounds-order-end : goal.slice_bounds-order-end
slice_bounds-order-end c =
    let q = c.requires in
    omega (arith, few_enough _ c.list_committed-all.ensures q.0 q.2, c.place-found.ensures.1)

pub slice_bounds-an_order-end : goal.slice_bounds-an_order-end
slice_bounds-an_order-end c =
    let q = c.requires in
    sym (length-take-le _ _ (omega (arith, few_enough _ c.list_committed-all.ensures q.0 q.2, c.place-found.ensures.1)))

pub an_order-requires : goal.an_order-requires
an_order-requires c =
    let q = c.requires in
    let few = few_enough _ c.list_committed-all.ensures q.0 q.2 in
    subst (λ (k : ℕ). k ≤ transactions) (sym (length-take-le _ _ (omega (arith, few, c.place-found.ensures.1)))) (omega (arith, few))

pub returns : goal.returns
returns c = held _ (order_found _ _ _ (rw c.if-not-found.false at c.place-found.ensures.0)) c.an_order.ensures
