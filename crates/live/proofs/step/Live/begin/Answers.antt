-- `begin` meets its contract.
use native.Mathlib.Omega.{arith}
use Rattle.live.proofs.TookBegin.{begin_seven, begin_eighteen, begin_taken}
use Rattle.live.proofs.step.Live.begin.Goals as goal

pub returns-then-t-self : goal.returns-then-t-self
returns-then-t-self c = rw c.told.ensures (λ e k x s z q f. let p = c.requires in begin_seven (record { opened = p.0; rows = p.1; marks = p.2; edges = z }) p.4 p.3 q f c.if-t-self.true)

pub returns-then-p-gt-PLACES : goal.returns-then-p-gt-PLACES
returns-then-p-gt-PLACES c =
    let p = c.requires in
    rw c.told-then-p-gt-PLACES.ensures (λ e k x s z q f. begin_eighteen (record { opened = p.0; rows = p.1; marks = p.2; edges = z }) p.4 p.3 q f c.if-t-self.false c.free_place-p.ensures c.if-p-gt-PLACES.true)

pub returns : goal.returns
returns c =
    let p = c.requires in
    rw c.told-2.ensures (λ e k x s z q f. begin_taken (record { opened = p.0; rows = p.1; marks = p.2; edges = z }) p.4 p.3 q f c.if-t-self.false c.free_place-p.ensures c.if-p-gt-PLACES.false (omega (arith, c.max.ensures), omega (arith, c.max.ensures), omega (arith, c.max.ensures, c.if-p-gt-PLACES.false, p.4)) c.give.ensures)
