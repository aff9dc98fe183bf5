-- `offer_earlier` meets its contract.
use mathlib.Core.Path.{refl, ap, ◌∙◌}
use mathlib.Core.Logic.{inl, inr}
use Prim.Native.Nat.{◌≤◌}
use lib.ListN.{length}
use native.Mathlib.Omega.{arith}
use Rattle.verdict.proofs.LeastReasons.{offered_length}
use Rattle.verdict.proofs.ConflictReasons.{nobody_offered, neither_offered, read_earlier, write_earlier}
use Rattle.verdict.proofs.conflict_reasons.offer_earlier.Lts
use Rattle.verdict.proofs.conflict_reasons.offer_earlier.Tie as tie
use Rattle.verdict.proofs.conflict_reasons.offer_earlier.Reads
use Rattle.verdict.proofs.conflict_reasons.offer_earlier.Goals as goal

-- places on the way, by the names that the toolchain gives them
abbrev Else-a-eq0 : Type 0
Else-a-eq0 = Lts.Else1 tie.the-claims Reads.Pre Reads.Post

-- somebody stands before
somebody : (c : Else-a-eq0) → 1 ≤ c.args.a
somebody c = let n = c.if-a-eq0.false in omega arith

pub returns-then-a-eq0 : goal.returns-then-a-eq0
returns-then-a-eq0 c ring on is-ring best = nobody_offered is-ring best _ _ _ _ c.if-a-eq0.true

pub has_touched-wrote-requires : goal.has_touched-wrote-requires
has_touched-wrote-requires c = let q = c.requires in (somebody c.before, q.1, inr refl, q.2)

pub returns-then-kind-eq-READ : goal.returns-then-kind-eq-READ
returns-then-kind-eq-READ c ring on is-ring best =
    read_earlier is-ring best _ c.args.x c.args.a c.requires.1 c.if-kind-eq-READ.true c.has_touched-wrote.ensures c.number_if.ensures c.offer.ensures

pub has_touched-wrote-requires-then-kind-eq-WRITE : goal.has_touched-wrote-requires-then-kind-eq-WRITE
has_touched-wrote-requires-then-kind-eq-WRITE c = let q = c.requires in (somebody c.before.before, q.1, inr refl, q.2)

pub has_touched-read-requires : goal.has_touched-read-requires
has_touched-read-requires c = let q = c.requires in (somebody c.before.before.before, q.1, inl refl, q.2)

pub offer-requires-then-kind-eq-WRITE-2 : goal.offer-requires-then-kind-eq-WRITE-2
offer-requires-then-kind-eq-WRITE-2 c =
    (ap length c.offer-then-kind-eq-WRITE.ensures ∙ offered_length c.args.best.now _ _ ∙ c.requires.0, c.requires.1)

pub returns-then-kind-eq-WRITE : goal.returns-then-kind-eq-WRITE
returns-then-kind-eq-WRITE c ring on is-ring best =
    write_earlier is-ring best _ c.args.x c.args.a c.requires.1 c.if-kind-eq-WRITE.true c.has_touched-wrote-then-kind-eq-WRITE.ensures c.has_touched-read.ensures
    c.number_if-then-kind-eq-WRITE.ensures c.number_if-then-kind-eq-WRITE-2.ensures c.offer-then-kind-eq-WRITE.ensures c.offer-then-kind-eq-WRITE-2.ensures

pub returns-else-kind-eq-WRITE : goal.returns-else-kind-eq-WRITE
returns-else-kind-eq-WRITE c ring on is-ring best = neither_offered is-ring best _ _ _ _ c.if-kind-eq-READ.false c.if-kind-eq-WRITE.false
