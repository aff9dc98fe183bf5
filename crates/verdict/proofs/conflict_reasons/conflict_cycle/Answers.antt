-- `conflict_cycle` meets its contract.
use mathlib.Core.Path.{ap, ◌∙◌}
use mathlib.Core.List.{List}
use Rattle.verdict.specs.Reason.{Entry}
use Rattle.verdict.specs.Outcome.{cycle}
use Rattle.verdict.specs.Inner.Reasons.{by_value, Ring}
use Rattle.verdict.proofs.WellFormed.{well_formed}
use Rattle.verdict.proofs.Computed.{conflict_ends}
use Rattle.verdict.proofs.ConflictGraph.{conflict_between}
use Rattle.verdict.proofs.Bounds.{cycle_few}
use Rattle.verdict.proofs.ShownGraph.{each_committed, ring_of, conflict_said}
use Rattle.verdict.proofs.conflict_reasons.conflict_cycle.Lts
use Rattle.verdict.proofs.conflict_reasons.conflict_cycle.Tie as tie
use Rattle.verdict.proofs.conflict_reasons.conflict_cycle.Reads
use Rattle.verdict.proofs.conflict_reasons.conflict_cycle.Goals as goal

-- places on the way, by the names that the toolchain gives them
abbrev Start : Type 0
Start = Lts.Start tie.the-claims Reads.Pre Reads.Post

-- the members
ring : (c : Start) → Ring c.args.members.now
ring c = let q = c.requires in ring_of (conflict_between _) _ q.2 (well_formed _ q.0)

pub conflict_reasons-best-requires : goal.conflict_reasons-best-requires
conflict_reasons-best-requires c = let q = c.requires in (q.0, q.1, ring c.before.before.before, each_committed (conflict_between _) _ q.2)

pub a_cycle-requires : goal.a_cycle-requires
a_cycle-requires c =
    let q = c.requires in
    ((cycle_few _ q.0 _ (conflict_ends _ (well_formed _ q.0)) _ q.2).few, (ring c.before.before.before.before.before).high)

pub returns : goal.returns
returns c =
    c.a_cycle.ensures ∙ ap (λ (w : List Entry). by_value (cycle w)) (conflict_said _ _ _ c.requires.2 c.conflict_reasons-best.ensures)
