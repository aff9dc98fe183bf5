-- `pass` meets its contract. At each turn it has gone over `i` lines, and the buffer is as `kept` says.
use Rattle.std.proofs.Common.{refl, ◌∙◌, arith}
use Rattle.text.proofs.Runs.{gone_nowhere, gone_on, gone_over}
use Rattle.text.proofs.line.pass.Goals as goal

pub loop-i-init : goal.loop-i-init
loop-i-init c = (omega arith, refl, gone_nowhere _ _ _)

pub returns-in_default : goal.returns-in_default
returns-in_default c =
    let g = c.loop-i.invariant.2 in
    (g.log, _, omega arith, g.each, g.over, c.in_default.ensures)

pub loop-i-preserved : goal.loop-i-preserved
loop-i-preserved c =
    let f = c.in-Some.ensures in
    let g = c.loop-i.invariant in
    (f.1, c.put_step.auto.steps ∙ g.1, gone_on _ _ f _ c.put_step.ensures g.2)

pub returns : goal.returns
returns c = gone_over _ (omega arith) c.loop-i.invariant.0 c.loop-i.invariant.2
