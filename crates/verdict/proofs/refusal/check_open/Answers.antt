-- `check_open` meets its contract.
use Rattle.std.proofs.Common.{◌≡◌, refl, sym, arith}
use Rattle.verdict.specs.Refusal.{tried}
use Rattle.verdict.proofs.Refused.{tried_none, tried_first}
use Rattle.verdict.proofs.Numbers.{still_open, not_open}
use Rattle.verdict.proofs.refusal.check_open.Goals as goal

pub loop-t-init : goal.loop-t-init
unfolding tried
loop-t-init c = refl

pub returns-then-lives-t-eq1 : goal.returns-then-lives-t-eq1
returns-then-lives-t-eq1 c =
    sym (tried_first _ c.loop-t.t (omega arith) c.loop-t.invariant (still_open _ c.loop-t.t c.if-lives-t-eq1.true))

pub loop-t-preserved : goal.loop-t-preserved
loop-t-preserved c = tried_none _ _ c.loop-t.invariant (not_open _ c.loop-t.t c.if-lives-t-eq1.false)

pub returns : goal.returns
returns c = let e : c.loop-t.t ≡ 129 = omega arith in sym (rw e at c.loop-t.invariant)
