-- `offer_edge` meets its contract.
use mathlib.Core.Path.{◌≡◌, ap, ◌∙◌}
use Prim.Native.Nat.{ℕ}
use lib.ListN.{length, get_or}
use borrow.Author.Rules.{rules}
use Rattle.verdict.specs.Inner.Reasons.{reason_number, offered}
use Rattle.verdict.proofs.LeastReasons.{offered_length, edge_offered, edge_passed}
use Rattle.verdict.proofs.version_reasons.offer_edge.Goals as goal

-- who stands before b, as the table says
stands_before : (c : goal.After-from) (e : ℕ) → get_or c.args.before.now c.from.result 0 ≡ e → get_or c.args.before.now c.args.b 0 ≡ e
stands_before c e f = rw c.from.ensures at f

pub returns-then-before-from : goal.returns-then-before-from
returns-then-before-from c =
    let q = c.requires in
    let a = c.args in
    let e : c.offer.new.best ≡ offered a.best.now a.a (reason_number a.x a.kind) = c.offer.ensures ∙ ap (offered a.best.now a.a) c.reason_number.ensures in (
      ap length e ∙ offered_length a.best.now _ _ ∙ q.0,
      λ ring on stands best. rw e (edge_offered stands best a.a a.b a.x a.kind q.1 q.2 q.4 (stands_before c.before.before.before.before.before.before.before _ c.if-before-from.true)),
    )

pub returns-else-before-from : goal.returns-else-before-from
returns-else-before-from c =
    let q = c.requires in
    let a = c.args in
    (q.0, λ ring on stands best. edge_passed stands best a.a a.b a.x a.kind q.2 (λ f. c.if-before-from.false (rw c.from.ensures f)))

pub offset_bounds-before-from : goal.offset_bounds-before-from
offset_bounds-before-from c = search rules
