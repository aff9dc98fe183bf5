-- `fits` meets its contract.
use Rattle.std.proofs.Common.{ℕ, ◌*◌, ◌∙◌, sym, ap, arith}
use Rattle.verdict.proofs.NeededMarks.{asked_nothing, asked_more, asked_all, one_barred}
use Rattle.verdict.proofs.search.fits.Goals as goal

pub overflow_mul-row : goal.overflow_mul-row
overflow_mul-row c = omega (arith, c.from-row.ensures, c.requires.0)

pub loop-x-init : goal.loop-x-init
loop-x-init c =
    (ap (λ (n : ℕ). n * 64) c.from-row.ensures, c.requires.0, c.requires.1, rw c.into_iter-x-iterator.ensures.into_iter_gives (asked_nothing _ _ _ _))

-- x, which is marked, is an object
pub overflow_add-row : goal.overflow_add-row
overflow_add-row c = let inv = c.loop-x.invariant in omega (arith, c.in-Some.ensures.steps.size, inv.0, inv.1)

pub offset_bounds-need-row : goal.offset_bounds-need-row
offset_bounds-need-row c = let inv = c.loop-x.invariant in omega (arith, c.in-Some.ensures.steps.size, inv.0, inv.1)

pub bounds-need-row : goal.bounds-need-row
bounds-need-row c = let inv = c.loop-x.invariant in omega (arith, c.in-Some.ensures.steps.size, inv.0, inv.1)

pub bounds-last-x : goal.bounds-last-x
bounds-last-x c = c.in-Some.ensures.steps.size

pub returns-then-not-allows : goal.returns-then-not-allows
returns-then-not-allows c =
    let a = c.args in
    let told = rw c.loop-x.invariant.0 at c.allows.ensures in
    sym (one_barred a.need.now a.last.now a.t c.in-Some.x c.in-Some.ensures.steps.size (sym told ∙ c.if-not-allows.true))

pub loop-x-preserved : goal.loop-x-preserved
loop-x-preserved c =
    let inv = c.loop-x.invariant in
    let told = rw inv.0 at c.allows.ensures in
    (inv.0, inv.1, inv.2, rw c.in-Some.ensures.steps.after (asked_more inv.3 _ (sym told ∙ c.if-not-allows.false)))

pub returns : goal.returns
returns c = let inv = c.loop-x.invariant in sym (asked_all inv.3 inv.2 c.in-None.ensures.steps)
