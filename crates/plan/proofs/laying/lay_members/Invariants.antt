-- What the loop of `lay_members` keeps.
use mathlib.Core.Path.{◌≡◌}
use lib.ListN.{length}
use Rattle.plan.specs.Inner.Laying.{Laid}
use Rattle.plan.proofs.laying.lay_members.Given as goal

abbrev pub invariant-loop-t : goal.invariant-loop-t
invariant-loop-t l = (length l.proposal ≡ length l.initial.proposal) × Laid l.marks l.t l.proposal l.count
