-- `higher` meets its contract.
use mathlib.Core.Path.{◌≡◌, refl}
use native.Mathlib.Omega.{arith}
use lib.ListN.{length}
use borrow.Author.Rules.{rules}
use Rattle.graph.proofs.Begins.{lowest→, lowest_less}
use Rattle.graph.proofs.Turn.{turn_none, turn_other}
use Rattle.graph.proofs.onward.higher.Goals as goal

pub returns-in_err-b : goal.returns-in_err-b
returns-in_err-b c =
    let size : length c.args.left ≡ 2 = search rules in
    λ w o never. rw c.from_residual.ensures (turn_none _ _ size _ w o never c.in_err-b.ensures, refl)

pub bounds-list-i : goal.bounds-list-i
bounds-list-i c =
    let size : length c.args.left ≡ 2 = search rules in
    omega (arith, lowest_less _ _ _ _ c.in_ok-b.ensures.first size c.in_ok-b.ensures.high)

pub dropped-requires : goal.dropped-requires
dropped-requires c = ((lowest→ _ _ _ _ c.in_ok-b.ensures.first c.in_ok-b.ensures.high).vertex.low, c.in_ok-b.ensures.high)

pub lay_down-p-requires : goal.lay_down-p-requires
lay_down-p-requires c =
    let size : length c.args.left ≡ 2 = search rules in
    rw c.dropped.ensures (omega (arith, lowest_less _ _ _ _ c.in_ok-b.ensures.first size c.in_ok-b.ensures.high))

pub returns : goal.returns
returns c =
    let size : length c.args.left ≡ 2 = search rules in
    λ w o never. turn_other _ _ size _ w o never _ c.in_ok-b.ensures _ _ _ _ _ (rw c.dropped.ensures at c.lay_down-p.ensures)
