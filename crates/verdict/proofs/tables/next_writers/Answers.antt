-- `next_writers` meets its contract.
use mathlib.Core.Path.{◌≡◌, refl, sym, ap, ◌∙◌}
use mathlib.Core.List.{List}
use Prim.Native.Nat.{ℕ, ◌≤◌, ◌<◌}
use native.Mathlib.Omega.{arith}
use lib.ListN.{get_or}
use Rattle.verdict.specs.Limits.{transactions}
use Rattle.verdict.specs.Log.{steps, tx}
use Rattle.verdict.specs.Inner.Checking.{committer}
use Rattle.verdict.proofs.WellFormed.{Well, well_formed}
use Rattle.verdict.proofs.CommitOrders.{LastCommit, last_commit}
use Rattle.verdict.proofs.NextWriters.{none_coming, coming_last, coming_first, coming_all, left_less}
use Rattle.verdict.proofs.tables.next_writers.Lts
use Rattle.verdict.proofs.tables.next_writers.Tie as tie
use Rattle.verdict.proofs.tables.next_writers.Reads
use Rattle.verdict.proofs.tables.next_writers.Goals as goal

-- places on the way, by the names that the toolchain gives them
abbrev After-from-at : Type 0
After-from-at = Lts.After-from tie.the-claims Reads.Pre Reads.Post goal.the-invariant-loop-t goal.the-decreases-loop-t

abbrev the_log : After-from-at → List ℕ
the_log c = c.args.log.now

well : (c : After-from-at) → Well transactions (the_log c)
well c = well_formed _ c.loop-t.invariant.0

-- the last commit before the steps that are done
commit : (c : After-from-at) → LastCommit (the_log c) c.loop-t.invariant.3
commit c = last_commit _ _ (λ z. c.loop-t-test.true (c.loop-t.invariant.5 ∙ z))

is_tx : (c : After-from-at) → c.from-at.result ≡ tx (the_log c) (commit c).step
is_tx c = c.from-at.ensures ∙ c.loop-t.invariant.5 ∙ sym (commit c).by

step_in : (c : After-from-at) → (commit c).step < steps (the_log c)
step_in c = omega (arith, (commit c).below, c.loop-t.invariant.4)

tx_in : (c : After-from-at) → (1 ≤ c.from-at.result) × (c.from-at.result ≤ transactions)
tx_in c = let r = (well c).range (commit c).step (step_in c) in (omega (arith, is_tx c, r.0), omega (arith, is_tx c, r.1))

-- who committed before it
onward : (c : After-from-at) → get_or c.args.earlier.now c.from-at.result 0 ≡ committer (the_log c) (commit c).step
onward c = ap (λ (t : ℕ). get_or c.args.earlier.now t 0) (is_tx c) ∙ c.loop-t.invariant.2.before (commit c).step (step_in c) (commit c).commits

pub loop-t-init : goal.loop-t-init
loop-t-init c = let q = c.requires in (q.0, q.1, q.2, steps c.args.log.now, omega arith, q.2.last, rw q.3 (none_coming _ 8256 _ refl refl))

pub offset_bounds-writes-at : goal.offset_bounds-writes-at
offset_bounds-writes-at c = omega (arith, (tx_in c.before.before).1)

pub bounds-writes-at : goal.bounds-writes-at
bounds-writes-at c = omega (arith, (tx_in c.before.before.before).1)

pub put_before-requires : goal.put_before-requires
put_before-requires c = let t = tx_in c.before.before.before.before in (c.loop-t.invariant.6.size, t.0, t.1)

pub offset_bounds-earlier-at : goal.offset_bounds-earlier-at
offset_bounds-earlier-at c = omega (arith, (tx_in c.before.before.before.before.before).1)

pub bounds-earlier-at : goal.bounds-earlier-at
bounds-earlier-at c = omega (arith, (tx_in c.before.before.before.before.before.before).1)

pub loop-t-smaller : goal.loop-t-smaller
loop-t-smaller c =
    let inv = c.loop-t.invariant in
    left_less _ (well c.before.before.before.before.before.before.before) inv.4 (commit c.before.before.before.before.before.before.before) (inv.5 ∙ sym (commit c.before.before.before.before.before.before.before).by) (onward c.before.before.before.before.before.before.before)

pub loop-t-preserved : goal.loop-t-preserved
loop-t-preserved c =
    let inv = c.loop-t.invariant in
    (inv.0, inv.1, inv.2, (commit c.before.before.before.before.before.before.before).step, omega (arith, step_in c.before.before.before.before.before.before.before), onward c.before.before.before.before.before.before.before, coming_last _ (well c.before.before.before.before.before.before.before) inv.4 inv.6 (commit c.before.before.before.before.before.before.before) inv.1 (is_tx c.before.before.before.before.before.before.before) c.put_before.ensures)

pub returns : goal.returns
returns c =
    let inv = c.loop-t.invariant in
    coming_all _ (coming_first _ (well_formed _ inv.0) inv.4 (sym inv.5 ∙ c.loop-t-test.false) inv.6)
