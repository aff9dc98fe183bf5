-- `best` meets its contract.
use mathlib.Core.Path.{refl}
use native.Mathlib.Omega.{arith}
use Rattle.graph.proofs.Ring.{least_none, so_far_bound, so_far_lower, so_far_same, so_far_all}
use Rattle.graph.proofs.cycle.best.Goals.{in-Some, in_default}
use Rattle.graph.proofs.cycle.best.Goals as goal

pub loop-s-init : goal.loop-s-init
loop-s-init c = (c.requires, (refl, least_none _ 0))

pub around-requires : goal.around-requires
around-requires c =
    (c.loop-s.invariant.0, omega arith, omega arith, so_far_bound _ _ _ _ c.loop-s.invariant.1, c.rising-rises.ensures)

pub loop-s-preserved : goal.loop-s-preserved
loop-s-preserved c =
    let before = c.loop-s.invariant.1 in (
      c.around.ensures.size,
      elim c.match-around.branch [
        | in-Some w ↦ rw (w.found-is, w.limit-is) (refl, so_far_lower _ _ _ _ before (omega arith) _ _ w.in-Some.ensures.way)
        | in_default w ↦ rw (w.found-is, w.limit-is) (so_far_same _ _ _ _ before w.in_default.ensures.way)
      ],
    )

pub returns : goal.returns
returns c = (c.loop-s.invariant.0, so_far_all _ _ _ _ c.loop-s.invariant.1 (omega arith))
