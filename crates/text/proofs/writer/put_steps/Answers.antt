-- `put_steps` meets its contract: the header, and then the lines.
use native.Mathlib.Omega.{arith}
use mathlib.Core.List.{List}
use Prim.Native.Nat.{ℕ, ◌+◌, ◌≤◌}
use lib.ListN.{length, length-append}
use Rattle.verdict.specs.Log.{steps}
use Rattle.text.specs.Bytes.{bytes}
use Rattle.text.specs.Line.{header}
use Rattle.text.specs.Text.{lines, text_of}
use Rattle.text.specs.Inner.Put.{Fits, Puts, Leads}
use Rattle.text.proofs.Readies.{puts_lead, both_lead}
use Rattle.text.proofs.Saying.{text_roomy}
use Rattle.text.proofs.writer.put_steps.Lts
use Rattle.text.proofs.writer.put_steps.Tie as tie
use Rattle.text.proofs.writer.put_steps.Reads
use Rattle.text.proofs.writer.put_steps.Goals as goal

-- places on the way, by the names that the toolchain gives them
abbrev After-put_item-a : Type 0
After-put_item-a = Lts.After-put_item tie.the-claims Reads.Pre Reads.Post

abbrev Start : Type 0
Start = Lts.Start tie.the-claims Reads.Pre Reads.Post

-- the two parts
module _ (s : Start) where
  abbrev log : List ℕ
  log = s.args.log.now

  abbrev front : List ℕ
  front = header (steps log)

  abbrev rest : List ℕ
  rest = lines (steps log) log

  -- there is room for both, and for what is put too far
  roomy : 8 + length front + length rest ≤ length s.args.out.now
  unfolding text_of
  roomy = omega (arith, text_roomy log s.requires.0, length-append front rest, s.requires.1)

  header_fits : Fits front 0 s.args.out.now
  header_fits = omega (arith, roomy)

header_put : (c : After-put_item-a) → Puts (front c.before.before.before.before.before.before) 0 c.args.out.now c.put_item-a.result c.put_item-a.new.out
unfolding header steps bytes
header_put c = c.put_item-a.ensures

header_leads : (c : After-put_item-a) → Leads (front c.before.before.before.before.before.before) 0 c.args.out.now c.put_item-a.result c.put_item-a.new.out
header_leads c = puts_lead (front c.before.before.before.before.before.before) c.args.out.now 0 (header_fits c.before.before.before.before.before.before) (header_put c)

pub put_item-a-requires : goal.put_item-a-requires
unfolding header steps bytes
put_item-a-requires c = header_fits c.before.before.before.before.before.before

pub put_lines-requires : goal.put_lines-requires
put_lines-requires c =
    (c.requires.0, omega (arith, roomy c.before.before.before.before.before.before.before.before.before.before, (header_leads c.before.before.before.before).reaches, (header_leads c.before.before.before.before).size))

pub returns : goal.returns
unfolding text_of
returns c =
    both_lead (front c.before.before.before.before.before.before.before.before.before.before.before.before.before) (rest c.before.before.before.before.before.before.before.before.before.before.before.before.before) c.args.out.now 0 (header_leads c.before.before.before.before.before.before.before) c.put_lines.ensures
