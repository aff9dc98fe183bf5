-- `count_members` meets its contract.
use Rattle.std.proofs.Common.{◌≡◌, refl, length}
use native.Mathlib.Omega.{arith}
use Rattle.verdict.proofs.HandedIn.{front_none, front_more, front_ends, front_whole}
use Rattle.verdict.proofs.following.count_members.Goals as goal

pub loop-i-init : goal.loop-i-init
loop-i-init c = front_none _

pub returns-then-order-i-eq0 : goal.returns-then-order-i-eq0
returns-then-order-i-eq0 c = front_ends _ _ (omega arith) c.loop-i.invariant c.if-order-i-eq0.true

pub loop-i-preserved : goal.loop-i-preserved
loop-i-preserved c = front_more _ _ (omega arith) c.loop-i.invariant c.if-order-i-eq0.false

pub returns : goal.returns
returns c =
    let e : c.loop-i.i ≡ length c.args.order.now = omega arith in
    front_whole _ _ refl (rw e at c.loop-i.invariant)
