-- `all_zero` meets its contract.
use mathlib.Core.Path.{refl, sym, ◌∙◌}
use native.Mathlib.Omega.{arith}
use Rattle.verdict.proofs.HandedIn.{zero_more, zero_not, zero_all}
use Rattle.verdict.proofs.following.all_zero.Goals as goal

pub loop-i-init : goal.loop-i-init
loop-i-init c = refl

pub returns-then-order-i-ne0 : goal.returns-then-order-i-ne0
returns-then-order-i-ne0 c = sym (c.loop-i.invariant ∙ zero_not c.args.order.now c.loop-i.i (omega arith) c.if-order-i-ne0.true)

pub loop-i-preserved : goal.loop-i-preserved
loop-i-preserved c = c.loop-i.invariant ∙ zero_more c.args.order.now c.loop-i.i (omega arith) c.if-order-i-ne0.false

pub returns : goal.returns
returns c = sym (c.loop-i.invariant ∙ zero_all c.args.order.now c.loop-i.i (omega arith))
