-- `take` meets its contract.
use native.Mathlib.Omega.{arith}
use Rattle.live.specs.SoFar.{numbers}
use Rattle.live.specs.Kept.{places, full}
use Rattle.live.proofs.Numbers.{number_range, number_eight, range_low}
use Rattle.live.proofs.Holding.{not_open}
use Rattle.live.proofs.Answering.{took_refused, takes_took, takes_breach, takes_closed}
use Rattle.live.proofs.step.Live.take.Goals as goal

pub returns-then-self-eq-BREACH : goal.returns-then-self-eq-BREACH
returns-then-self-eq-BREACH c = let p = c.requires in rw c.told.ensures (takes_breach c.if-self-eq-BREACH.true p.0 p.1)

pub returns-then-self-eq-CLOSED : goal.returns-then-self-eq-CLOSED
returns-then-self-eq-CLOSED c = let p = c.requires in rw c.told-then-self-eq-CLOSED.ensures (takes_closed c.if-self-eq-CLOSED.true p.0 p.1)

pub returns-in-Some : goal.returns-in-Some
returns-in-Some c =
    let p = c.requires in
    rw c.told-in-Some.ensures (takes_took c.if-self-eq-BREACH.false c.if-self-eq-CLOSED.false (took_refused _ c.in-Some.ensures.1 p.0 p.1 (λ log h. number_range (full numbers places) log _ _ _ _ c.in-Some.ensures.0 c.in-Some.ensures.1)))

pub begin-requires : goal.begin-requires
begin-requires c =
    let p = c.requires in
    (p.0.opened, p.0.rows, p.0.marks, range_low _ _ _ _ c.in_default.ensures, p.1)

pub returns-then-k-eq-BEGIN : goal.returns-then-k-eq-BEGIN
returns-then-k-eq-BEGIN c =
    let p = c.requires in
    takes_took c.if-self-eq-BREACH.false c.if-self-eq-CLOSED.false (c.begin.ensures _ _ _ _ p.0.edges c.if-k-eq-BEGIN.true c.in_default.ensures)

pub returns-in-None : goal.returns-in-None
returns-in-None c =
    let p = c.requires in
    rw c.told-in-None.ensures (takes_took c.if-self-eq-BREACH.false c.if-self-eq-CLOSED.false
    (took_refused 8 (λ z. omega arith) p.0 p.1 (λ log y. number_eight (full numbers places) log _ _ _ _ c.in_default.ensures c.if-k-eq-BEGIN.false (not_open y.held y.keeping _ c.in-None.ensures))))

pub inside-requires : goal.inside-requires
inside-requires c =
    let p = c.requires in
    let f = c.in-Some-place_of.ensures in
    (p.0, range_low _ _ _ _ c.in_default.ensures, p.1, f.0, f.1, c.in_default.ensures, c.if-k-eq-BEGIN.false)

pub returns-in-Some-place_of : goal.returns-in-Some-place_of
returns-in-Some-place_of c =
    takes_took c.if-self-eq-BREACH.false c.if-self-eq-CLOSED.false c.inside.ensures
