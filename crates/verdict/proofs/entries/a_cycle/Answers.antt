-- `a_cycle` meets its contract.
use mathlib.Core.Path.{◌≡◌, refl, sym, ap, ap₂, ◌∙◌}
use mathlib.Core.List.{List}
use Prim.Native.Nat.{ℕ, ◌%◌, ◌/◌, ◌≤◌}
use native.Mathlib.Omega.{arith}
use lib.ListN.{length, get_or, length-map}
use borrow.Author.Rules.{rules}
use Rattle.words.specs.Lists.{zeros, entries}
use Rattle.verdict.specs.Limits.{transactions}
use Rattle.verdict.specs.Outcome.{said, members}
use Rattle.verdict.specs.Witness.{in_threes, witness}
use Rattle.verdict.specs.declared.answers.Answer.{Answer}
use Rattle.verdict.specs.declared.answers.Answer.TheVariants.{Cycle}
use Rattle.verdict.specs.Inner.Reasons.{entry_put, entry_of, numbered}
use Rattle.verdict.proofs.Threes.{put_length, member_more, all_entries}
use Rattle.verdict.proofs.entries.a_cycle.Lts
use Rattle.verdict.proofs.entries.a_cycle.Tie as tie
use Rattle.verdict.proofs.entries.a_cycle.Reads
use Rattle.verdict.proofs.entries.a_cycle.Goals as goal

-- places on the way, by the names that the toolchain gives them
abbrev After-from : Type 0
After-from = Lts.After-from tie.the-claims Reads.Pre Reads.Post goal.the-invariant-loop-i goal.the-decreases-loop-i

known : (c : After-from) → c.from.result ≤ transactions
known c = rw c.from.ensures (c.requires.1 c.loop-i.i (omega arith))

pub loop-i-init : goal.loop-i-init
unfolding entries zeros in_threes
loop-i-init c = (search rules, refl)

pub offset_bounds-reasons-from : goal.offset_bounds-reasons-from
offset_bounds-reasons-from c = omega (arith, known c.before)

pub bounds-reasons-from : goal.bounds-reasons-from
bounds-reasons-from c = omega (arith, known c.before.before)

pub put_entry-requires : goal.put_entry-requires
put_entry-requires c = let q = c.requires in (c.loop-i.invariant.0, omega (arith, q.0))

pub loop-i-preserved : goal.loop-i-preserved
loop-i-preserved c =
    let inv = c.loop-i.invariant in
    let given : List ℕ = c.args.members.now in
    let numbers : List ℕ = c.args.reasons.now in
    let v : ℕ = get_or given c.loop-i.i 0 in
    let e : get_or numbers c.from.result 0 ≡ get_or numbers v 0 = ap (λ (u : ℕ). get_or numbers u 0) c.from.ensures in (ap length c.put_entry.ensures ∙ put_length c.loop-i.list c.loop-i.i _ _ _ ∙ inv.0, c.put_entry.ensures ∙ ap₂ (λ (l : List ℕ) (n : ℕ). entry_put l c.loop-i.i v (n % 4) (n / 4)) inv.1 e ∙ member_more (entry_of numbers) given c.loop-i.i (omega arith) c.requires.0 _ (unfold entry_of in refl))

pub returns : goal.returns
unfolding said members numbered witness
returns c =
    let given : List ℕ = c.args.members.now in
    let numbers : List ℕ = c.args.reasons.now in
    let e : c.loop-i.i ≡ length given = omega arith in
    ap₂ (λ (a : Answer) (l : List ℕ). record { answer = a; list = l }) (ap Cycle (sym (length-map given (entry_of numbers)))) (c.loop-i.invariant.1 ∙ all_entries (entry_of numbers) given c.loop-i.i e)
