-- `look_at` meets its contract. At each turn the first i numbers are named, and no fault is found.
use Rattle.std.proofs.Common.{◌≡◌, ◌∙◌, ◌<◌, ℕ, List, true, false, sym, length, ⊎_elim, refl, arith}
use Rattle.words.specs.Tests.{◌below◌}
use Rattle.words.proofs.Truth.{decide, not_both, and→, fails→, below→, not_below→}
use Rattle.verdict.proofs.HandedIn.{front_ends, front_whole}
use Rattle.plan.specs.Inner.Marks.{table, marked}
use Rattle.plan.proofs.MarkLaws.{marked_beyond}
use Rattle.plan.proofs.Named.{named_none, named_all, named_more, named_bad}
use Rattle.plan.proofs.members.look_at.Goals as goal

-- who is marked has an entry
within : (who : List ℕ) {t : ℕ} → length who ≡ table → marked who t ≡ true → t < table
within who {t} size m =
    ⊎_elim (λ (h : (t below table) ≡ true). below→ h)
    (λ (h : (t below table) ≡ false). absurd (not_both m (marked_beyond who t (omega (arith, size, not_below→ h))))) (decide (t below table))

pub loop-i-init : goal.loop-i-init
loop-i-init c = named_none _ _ _ refl

pub returns-then-t-eq0 : goal.returns-then-t-eq0
returns-then-t-eq0 c = named_all _ _ _ _ c.loop-i.invariant (front_ends _ _ (omega arith) c.loop-i.invariant.front (sym c.from-t.ensures ∙ c.if-t-eq0.true))

pub may_name-requires : goal.may_name-requires
may_name-requires c = (c.requires.0, c.loop-i.invariant.size)

pub returns-then-not-may_name : goal.returns-then-not-may_name
returns-then-not-may_name c =
    named_bad _ _ _ _ c.loop-i.invariant (omega arith) (λ z. c.if-t-eq0.false (c.from-t.ensures ∙ z))
    (rw (← c.from-t.ensures) (sym c.may_name.ensures ∙ c.if-not-may_name.true))

pub bounds-marks-t : goal.bounds-marks-t
bounds-marks-t c = within c.args.who.now c.requires.0 (and→ (sym c.may_name.ensures ∙ c.if-not-may_name.false)).0

pub loop-i-preserved : goal.loop-i-preserved
loop-i-preserved c =
    let m = and→ (sym c.may_name.ensures ∙ c.if-not-may_name.false) in
    rw c.from-t.ensures
    (named_more _ _ _ _ c.loop-i.invariant (omega arith) (λ z. c.if-t-eq0.false (c.from-t.ensures ∙ z)) (rw c.from-t.ensures at m.0) (rw c.from-t.ensures at (fails→ m.1))
    (rw c.from-t.ensures at (within c.args.who.now c.requires.0 m.0)))

pub returns : goal.returns
returns c =
    let e : c.loop-i.i ≡ length c.args.proposal.now = omega arith in
    rw (← e) (named_all _ _ _ _ c.loop-i.invariant (front_whole _ _ (omega arith) c.loop-i.invariant.front))
