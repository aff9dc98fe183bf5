-- `cycle` meets its contract.
use native.Mathlib.Omega.{arith}
use Rattle.graph.specs.Matrix.{joined}
use Rattle.graph.specs.Inner.Distances.{Least}
use Rattle.graph.proofs.Ring.{Found, ring_some, ring_found, ring_layers, ring_cycled}
use Rattle.graph.proofs.cycle.cycle.Goals.{After-unwrap-ring}
use Rattle.graph.proofs.cycle.cycle.Goals as goal

-- the ring that was found
least : (c : After-unwrap-ring) → Least (joined 128 c.args.m.now c.args.part) 129 c.unwrap-ring.result.len c.unwrap-ring.result.start
least c = rw c.unwrap-ring.ensures at c.best.ensures.1

found : (c : After-unwrap-ring) → Found c.args.m.now c.args.part c.unwrap-ring.result.len c.unwrap-ring.result.start
found c = ring_found _ _ (least c) c.requires.0 c.requires.1

pub unwrap-ring-requires : goal.unwrap-ring-requires
unwrap-ring-requires c = ring_some _ _ _ c.best.ensures.1 c.requires.0 c.requires.1

pub closing-requires : goal.closing-requires
closing-requires c =
    let r = found (goal.at.closing-requires c).After-unwrap-ring in
    (c.best.ensures.0, r.low, r.high, omega arith, omega arith)

pub overflow_cast-list : goal.overflow_cast-list
overflow_cast-list c = omega (arith, (found (goal.at.overflow_cast-list c).After-unwrap-ring).high)

pub trace-requires : goal.trace-requires
trace-requires c =
    let r = found (goal.at.trace-requires c).After-unwrap-ring in
    (r.low, r.high, r.brief, ring_layers _ _ c.closing.ensures.way r.home r.brief, r.home)

pub returns : goal.returns
returns c = ring_cycled _ _ (least (goal.at.returns c).After-unwrap-ring) c.requires.0 c.requires.1 _ _ c.trace.ensures
