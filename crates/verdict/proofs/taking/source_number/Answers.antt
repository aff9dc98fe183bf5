-- `source_number` meets its contract.
use mathlib.Core.Path.{sym}
use native.Mathlib.Omega.{arith}
use Rattle.verdict.proofs.WellFormed.{source_within}
use Rattle.verdict.proofs.Sources.{by_source, there, not_there}
use Rattle.verdict.proofs.taking.source_number.Goals as goal

pub object_marked-requires : goal.object_marked-requires
object_marked-requires c = let known = c.requires in omega (arith, c.step_at-step.ensures.src_is, source_within _ _ known.2 known.1)

pub returns-then-not-object_marked : goal.returns-then-not-object_marked
returns-then-not-object_marked c =
    let known = c.requires in
    let told = c.step_at-step.ensures in
    sym (not_there _ _ known.1 (by_source _ _ known.3 known.2 known.1 told.obj_is told.src_is c.object_marked.ensures c.if-not-object_marked.true))

pub returns : goal.returns
returns c =
    let known = c.requires in
    let told = c.step_at-step.ensures in
    sym (there _ _ known.1 (by_source _ _ known.3 known.2 known.1 told.obj_is told.src_is c.object_marked.ensures c.if-not-object_marked.false))
