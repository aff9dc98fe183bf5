-- `rising` meets its contract.
use native.Mathlib.Omega.{arith}
use Rattle.graph.proofs.Marks.{ends_from}
use Rattle.graph.proofs.SetWalks.{rises_none, rises_more, rises_all}
use Rattle.graph.proofs.cycle.rising.Goals as goal

pub loop-u-init : goal.loop-u-init
loop-u-init c = rises_none _

pub loop-u-preserved : goal.loop-u-preserved
loop-u-preserved c =
    rises_more (ends_from 128 _ _) c.loop-u.invariant (omega arith) (omega arith) _ _ _ _ c.before-in-loop-u.ensures c.common.ensures c.union-more.ensures c.with_vertex-wider.ensures

pub returns : goal.returns
returns c = rises_all c.loop-u.invariant (omega arith)
