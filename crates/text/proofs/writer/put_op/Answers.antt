-- `put_op` meets its contract: `op=`, and the word that stands ready with the blank behind it.
use native.Mathlib.Omega.{arith}
use mathlib.Core.List.{[], ◌∷◌, ◌++◌}
use Prim.Native.Nat.{◌≤◌}
use lib.ListN.{length, length-append}
use Rattle.text.specs.Bytes.{bytes, blank}
use Rattle.text.specs.Line.{word, item, op}
use Rattle.text.specs.Inner.Put.{Leads}
use Rattle.text.proofs.Words.{word_length}
use Rattle.text.proofs.Readies.{puts_lead, both_lead, ready_leads}
use Rattle.text.proofs.writer.put_op.Lts
use Rattle.text.proofs.writer.put_op.Tie as tie
use Rattle.text.proofs.writer.put_op.Reads
use Rattle.text.proofs.writer.put_op.Goals as goal

-- places on the way, by the names that the toolchain gives them
abbrev After-put_word-a : Type 0
After-put_word-a = Lts.After-put_word tie.the-claims Reads.Pre Reads.Post

first_leads : (c : After-put_word-a) → Leads (bytes "op=") c.args.at c.args.out.now c.put_word-a.result c.put_word-a.new.out
unfolding bytes
first_leads c = puts_lead (bytes "op=") c.args.out.now c.args.at (omega (arith, c.requires)) c.put_word-a.ensures

pub returns : goal.returns
unfolding op item bytes
returns c =
    let v = word c.args.k ++ blank ∷ [] in
    let few : length v ≤ 8 = omega (arith, length-append (word c.args.k) (blank ∷ []), word_length c.args.k) in
    both_lead (bytes "op=") v c.args.out.now c.args.at (first_leads c.before.before.before.before.before.before.before.before)
    (ready_leads 8 72057594037927936 c.ready_word-w.result v c.put_word-a.new.out c.put_low.new.out c.put_word-a.result c.ready_word-w.ensures few
    (omega (arith, (first_leads c.before.before.before.before.before.before.before.before).reaches, (first_leads c.before.before.before.before.before.before.before.before).size, c.requires)) c.put_low.ensures)
