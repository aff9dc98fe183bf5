-- `before_each` meets its contract.
use mathlib.Core.Path.{refl}
use Prim.Native.Nat.{◌≤◌}
use native.Mathlib.Omega.{arith}
use Rattle.verdict.specs.Limits.{transactions}
use Rattle.verdict.proofs.Standing.{stood_none, stood_more, stood_all}
use Rattle.verdict.proofs.reasons.before_each.Lts
use Rattle.verdict.proofs.reasons.before_each.Tie as tie
use Rattle.verdict.proofs.reasons.before_each.Reads
use Rattle.verdict.proofs.reasons.before_each.Goals as goal

-- places on the way, by the names that the toolchain gives them
abbrev After-from : Type 0
After-from = Lts.After-from tie.the-claims Reads.Pre Reads.Post goal.the-invariant-loop-i goal.the-decreases-loop-i

known : (c : After-from) → c.from.result ≤ transactions
known c = rw c.from.ensures (c.requires.high c.loop-i.i (omega arith))

pub overflow_sub-last : goal.overflow_sub-last
overflow_sub-last c = c.requires.any

pub offset_bounds-members-members : goal.offset_bounds-members-members
offset_bounds-members-members c = omega arith

pub bounds-members-members : goal.bounds-members-members
bounds-members-members c = omega (arith, c.requires.any)

pub loop-i-init : goal.loop-i-init
loop-i-init c = stood_none c.requires refl

pub offset_bounds-before-from : goal.offset_bounds-before-from
offset_bounds-before-from c = omega (arith, known c.before)

pub bounds-before-from : goal.bounds-before-from
bounds-before-from c = omega (arith, known c.before)

pub loop-i-preserved : goal.loop-i-preserved
loop-i-preserved c = rw c.from.ensures (stood_more c.requires c.loop-i.invariant (omega arith) refl)

pub returns : goal.returns
returns c = stood_all c.requires c.loop-i.invariant (omega (arith, c.loop-i.invariant.within))
