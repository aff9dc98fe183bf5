-- `version_cycle` meets its contract.
use mathlib.Core.Path.{ap, ◌∙◌}
use mathlib.Core.List.{List}
use Rattle.verdict.specs.Reason.{Entry}
use Rattle.verdict.specs.Outcome.{cycle}
use Rattle.verdict.specs.Inner.Reasons.{by_value, Ring}
use Rattle.verdict.proofs.WellFormed.{well_formed}
use Rattle.verdict.proofs.Computed.{version_ends}
use Rattle.verdict.proofs.VersionGraph.{version_between}
use Rattle.verdict.proofs.Bounds.{cycle_few}
use Rattle.verdict.proofs.ShownGraph.{ring_of, version_said}
use Rattle.verdict.proofs.version_reasons.version_cycle.Lts
use Rattle.verdict.proofs.version_reasons.version_cycle.Tie as tie
use Rattle.verdict.proofs.version_reasons.version_cycle.Reads
use Rattle.verdict.proofs.version_reasons.version_cycle.Goals as goal

-- places on the way, by the names that the toolchain gives them
abbrev Start : Type 0
Start = Lts.Start tie.the-claims Reads.Pre Reads.Post

-- the members
ring : (c : Start) → Ring c.args.members.now
ring c = let q = c.requires in let well = well_formed _ q.0 in ring_of (version_between _ well q.1) _ q.4 well

pub version_reasons-best-requires : goal.version_reasons-best-requires
version_reasons-best-requires c = let q = c.requires in (q.0, q.2, q.3, ring c.before.before.before)

pub a_cycle-requires : goal.a_cycle-requires
a_cycle-requires c =
    let q = c.requires in
    ((cycle_few _ q.0 _ (version_ends _ (well_formed _ q.0) q.1) _ q.4).few, (ring c.before.before.before.before.before).high)

pub returns : goal.returns
returns c =
    c.a_cycle.ensures ∙ ap (λ (w : List Entry). by_value (cycle w)) (version_said _ _ _ c.requires.4 c.version_reasons-best.ensures)
