-- `judge_conflict` meets its contract.
use mathlib.Core.Path.{refl, ◌∙◌}
use Prim.Native.Nat.{suc}
use borrow.Author.Rules.{rules}
use Rattle.words.specs.Lists.{zeros}
use Rattle.graph.specs.Shows.{Shape, Shows}
use Rattle.verdict.specs.Limits.{transactions}
use Rattle.verdict.specs.Log.{committed}
use Rattle.verdict.specs.Conflict.{conflict_on, conflict_edge}
use Rattle.verdict.proofs.Threes.{Front, front_of, held}
use Rattle.verdict.proofs.Matrices.{no_edges, shown_of}
use Rattle.verdict.proofs.ConflictGraph.{conflict_between}
use Rattle.verdict.proofs.ShownGraph.{shown_order, shown_cycle}
use Rattle.verdict.proofs.conflict_graph.judge_conflict.Goals.{In-Order, In-Cycle}
use Rattle.verdict.proofs.conflict_graph.judge_conflict.Goals as goal

-- what is shown, and that it stands first in its list
module _ (c : In-Order) where
  order_front : Front c.in-Order.order.list c.in-Order.order.count c.in-Order.ensures.members
  order_front = let s = c.in-Order.ensures in front_of s.listed (search rules) s.counted

  order_shown : Shows (suc transactions) (committed c.args.log.now) (conflict_edge c.args.log.now) Shape.Order c.in-Order.ensures.members
  order_shown = shown_of c.requires.1 c.draw.ensures (conflict_between _) c.in-Order.ensures.right

module _ (c : In-Cycle) where
  cycle_front : Front c.in-Cycle.ring.list c.in-Cycle.ring.count c.in-Cycle.ensures.members
  cycle_front = let s = c.in-Cycle.ensures in front_of s.listed (search rules) s.counted

  cycle_shown : Shows (suc transactions) (committed c.args.log.now) (conflict_edge c.args.log.now) Shape.Cycle c.in-Cycle.ensures.members
  cycle_shown = shown_of c.requires.1 c.draw.ensures (conflict_between _) c.in-Cycle.ensures.right

pub draw-requires : goal.draw-requires
unfolding zeros
draw-requires c = let q = c.requires in (q.0, q.1, no_edges refl)

pub conflict_cycle-requires : goal.conflict_cycle-requires
conflict_cycle-requires c =
    let q = c.requires in
    let at = (goal.at.conflict_cycle-requires c).In-Cycle in
    (q.0, q.1, (shown_cycle {on = conflict_on c.args.log.now} (cycle_shown at) (c.as_slice-in-Cycle.ensures ∙ (cycle_front at).same)).0)

pub returns-in-Order : goal.returns-in-Order
returns-in-Order c =
    let at = (goal.at.returns-in-Order c).In-Order in
    held _ (shown_order (order_shown at) (c.as_slice.ensures ∙ (order_front at).same)) c.an_order.ensures

pub returns-in-Cycle : goal.returns-in-Cycle
returns-in-Cycle c =
    let at = (goal.at.returns-in-Cycle c).In-Cycle in
    held _ (shown_cycle (cycle_shown at) (c.as_slice-in-Cycle.ensures ∙ (cycle_front at).same)).1 c.conflict_cycle.ensures
