-- `judge_version` meets its contract.
use mathlib.Core.Path.{refl, sym, ◌∙◌}
use Prim.Native.Nat.{suc}
use borrow.Author.Rules.{rules}
use Rattle.words.specs.Lists.{zeros}
use Rattle.graph.specs.Shows.{Shape, Shows}
use Rattle.verdict.specs.Limits.{transactions}
use Rattle.verdict.specs.Log.{committed}
use Rattle.verdict.specs.Version.{version_on, version_edge, version, version_unclean}
use Rattle.verdict.proofs.WellFormed.{well_formed}
use Rattle.verdict.proofs.Cleanly.{cleanness_clean}
use Rattle.verdict.proofs.Threes.{Front, front_of, held}
use Rattle.verdict.proofs.Memberless.{holds_unclean}
use Rattle.verdict.proofs.Matrices.{no_edges, shown_of}
use Rattle.verdict.proofs.VersionGraph.{version_between}
use Rattle.verdict.proofs.ShownGraph.{shown_order, shown_cycle}
use Rattle.verdict.proofs.version_graph.judge_version.Goals.{In-Order, In-Cycle}
use Rattle.verdict.proofs.version_graph.judge_version.Goals as goal

-- what is shown, and that it stands first in its list
module _ (c : In-Order) where
  order_front : Front c.in-Order.order.list c.in-Order.order.count c.in-Order.ensures.members
  order_front = let s = c.in-Order.ensures in front_of s.listed (search rules) s.counted

  order_shown : Shows (suc transactions) (committed c.args.log.now) (version_edge c.args.log.now) Shape.Order c.in-Order.ensures.members
  order_shown =
      let q = c.requires in
      shown_of q.2 c.draw.ensures (version_between _ (well_formed _ q.0) (cleanness_clean _ (sym q.1 ∙ c.in_default.is))) c.in-Order.ensures.right

module _ (c : In-Cycle) where
  cycle_front : Front c.in-Cycle.ring.list c.in-Cycle.ring.count c.in-Cycle.ensures.members
  cycle_front = let s = c.in-Cycle.ensures in front_of s.listed (search rules) s.counted

  cycle_shown : Shows (suc transactions) (committed c.args.log.now) (version_edge c.args.log.now) Shape.Cycle c.in-Cycle.ensures.members
  cycle_shown =
      let q = c.requires in
      shown_of q.2 c.draw.ensures (version_between _ (well_formed _ q.0) (cleanness_clean _ (sym q.1 ∙ c.in_default.is))) c.in-Cycle.ensures.right

pub returns-in-Unclean : goal.returns-in-Unclean
returns-in-Unclean c = holds_unclean (version_unclean (sym c.requires.1 ∙ c.in-Unclean.is)) c.without_members.ensures

pub draw-requires : goal.draw-requires
unfolding zeros
draw-requires c = let q = c.requires in (q.0, q.2, q.3, no_edges refl)

pub version_cycle-requires : goal.version_cycle-requires
version_cycle-requires c =
    let q = c.requires in
    let at = (goal.at.version_cycle-requires c).In-Cycle in
    (q.0, cleanness_clean _ (sym q.1 ∙ c.in_default.is), q.2, q.3, (shown_cycle {on = version_on c.args.log.now} (cycle_shown at) (c.as_slice-in-Cycle.ensures ∙ (cycle_front at).same)).0)

pub returns-in-Order : goal.returns-in-Order
returns-in-Order c =
    let at = (goal.at.returns-in-Order c).In-Order in
    held _ (version (sym c.requires.1 ∙ c.in_default.is) (shown_order (order_shown at) (c.as_slice.ensures ∙ (order_front at).same))) c.an_order.ensures

pub returns-in-Cycle : goal.returns-in-Cycle
returns-in-Cycle c =
    let at = (goal.at.returns-in-Cycle c).In-Cycle in
    held _ (version (sym c.requires.1 ∙ c.in_default.is) (shown_cycle (cycle_shown at) (c.as_slice-in-Cycle.ensures ∙ (cycle_front at).same)).1) c.version_cycle.ensures
