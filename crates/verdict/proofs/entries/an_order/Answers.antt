-- `an_order` meets its contract.
use mathlib.Core.Path.{◌≡◌, refl, ap, ap₂, ◌∙◌}
use mathlib.Core.List.{List}
use Prim.Native.Nat.{ℕ}
use native.Mathlib.Omega.{arith}
use lib.ListN.{length, get_or}
use borrow.Author.Rules.{rules}
use Rattle.words.specs.Lists.{zeros, entries}
use Rattle.verdict.specs.Reason.{without_reasons}
use Rattle.verdict.specs.Outcome.{said, members}
use Rattle.verdict.specs.Witness.{in_threes, witness}
use Rattle.verdict.specs.declared.answers.Answer.{Answer}
use Rattle.verdict.specs.Inner.Reasons.{entry_put}
use Rattle.verdict.proofs.Threes.{put_length, member_more, all_entries}
use Rattle.verdict.proofs.entries.an_order.Invariants.{alone}
use Rattle.verdict.proofs.entries.an_order.Goals as goal

pub loop-i-init : goal.loop-i-init
unfolding entries zeros in_threes
loop-i-init c = (c.requires, search rules, refl)

pub put_entry-requires : goal.put_entry-requires
put_entry-requires c = let inv = c.loop-i.invariant in (inv.1, omega arith)

pub loop-i-preserved : goal.loop-i-preserved
loop-i-preserved c =
    let inv = c.loop-i.invariant in
    let given : List ℕ = c.args.members.now in
    let t : ℕ = get_or given c.loop-i.i 0 in (inv.0, ap length c.put_entry.ensures ∙ put_length c.loop-i.list c.loop-i.i t 0 0 ∙ inv.1, c.put_entry.ensures ∙ ap (λ (l : List ℕ). entry_put l c.loop-i.i t 0 0) inv.2 ∙ member_more alone given c.loop-i.i (omega arith) inv.0 (alone t) refl)

pub returns : goal.returns
unfolding said members without_reasons witness
returns c =
    let inv = c.loop-i.invariant in
    let given : List ℕ = c.args.members.now in
    let e : c.loop-i.i ≡ length given = omega arith in
    ap₂ (λ (a : Answer) (l : List ℕ). record { answer = a; list = l }) refl (inv.2 ∙ all_entries alone given c.loop-i.i e)
