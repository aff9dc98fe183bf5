-- `all_needed` meets its contract.
use mathlib.Core.Path.{◌∙◌}
use Prim.Native.Nat.{ℕ, ◌<◌}
use native.Mathlib.Omega.{arith}
use borrow.Author.Rules.{rules}
use lib.ListN.{length-set}
use Rattle.verdict.proofs.NeededMarks.{needed_next}
use Rattle.verdict.proofs.search.all_needed.Goals as goal

pub loop-i-init : goal.loop-i-init
loop-i-init c = (c.requires.0, search rules, λ (k : ℕ) (h : k < 0). absurd (omega arith))

pub needed_objects-requires : goal.needed_objects-requires
needed_objects-requires c = c.requires.1 c.loop-i.i (omega arith)

pub loop-i-preserved : goal.loop-i-preserved
loop-i-preserved c =
    let inv = c.loop-i.invariant in
    let a = c.args in (inv.0, length-set c.loop-i.asks _ _ ∙ inv.1, needed_next a.need.now a.ones.now c.loop-i.asks (omega (arith, inv.1)) inv.2 c.needed_objects.ensures)

pub returns : goal.returns
returns c k h = c.loop-i.invariant.2 k (omega arith)
