-- `try_back` meets its contract.
use mathlib.Core.Path.{ap, ◌∙◌}
use Prim.Native.Nat.{ℕ, ◌<◌}
use native.Mathlib.Omega.{arith}
use lib.ListN.{length}
use Rattle.verdict.specs.Log.{steps, src}
use Rattle.verdict.proofs.WellFormed.{whole_steps}
use Rattle.words.specs.Tests.{provided◌then◌else◌}
use Rattle.plan.specs.Inner.Marks.{marked}
use Rattle.plan.proofs.Plans.{tried_fine, tried_cycle, tried_none, fault_inside, tried_unclean}
use Rattle.plan.proofs.giving_back.try_back.Lts
use Rattle.plan.proofs.giving_back.try_back.Tie as tie
use Rattle.plan.proofs.giving_back.try_back.Reads
use Rattle.plan.proofs.giving_back.try_back.Goals as goal

-- places on the way, by the names that the toolchain gives them
abbrev Start : Type 0
Start = Lts.Start tie.the-claims Reads.Pre Reads.Post

inside : (c : Start) → c.args.t < length c.args.back
inside c = omega (arith, c.requires.1, c.requires.5)

pub source_or-requires : goal.source_or-requires
source_or-requires c = let k : c.fault_step.result < steps c.args.log.now = rw c.fault_step.ensures (fault_inside c.args.log.now c.requires.0 c.args.back c.args.t (inside c.before.before.before.before.before.before.before) c.requires.3 c.version_after.ensures c.in-Unclean.is) in
    (c.requires.1, omega (arith, whole_steps c.args.log.now c.requires.0))

pub returns-in-Order : goal.returns-in-Order
returns-in-Order c = tried_fine c.args.log.now c.requires.0 c.args.back c.args.t (inside c.before.before.before.before.before) c.requires.3 c.version_after.ensures c.in-Order.is

pub returns-in-Cycle : goal.returns-in-Cycle
returns-in-Cycle c = tried_cycle c.args.log.now c.requires.0 c.args.back c.args.t (inside c.before.before.before.before.before) c.requires.3 c.version_after.ensures c.in-Cycle.is

pub returns-in-None : goal.returns-in-None
returns-in-None c = absurd (tried_none c.args.log.now c.requires.0 c.args.back c.args.t (inside c.before.before.before.before.before) c.requires.3 c.version_after.ensures c.in-None.is)

pub returns-in-Unclean : goal.returns-in-Unclean
returns-in-Unclean c = let log = c.args.log.now in
    let back = c.args.back in
    tried_unclean log c.requires.0 back c.args.t (inside c.before.before.before.before.before.before.before.before) c.requires.3 c.version_after.ensures c.in-Unclean.is c.requires.4
    (c.source_or.ensures ∙ ap (λ (k : ℕ). provided marked back (src log k) then src log k else c.args.t) c.fault_step.ensures)
