-- `put_small` meets its contract: a key, what stands ready in the table, and a byte.
use native.Mathlib.Omega.{arith}
use mathlib.Core.List.{[], ◌∷◌}
use Prim.Native.Nat.{ℕ, ◌+◌, ◌/◌, ◌≤◌}
use lib.ListN.{length, get_or}
use Rattle.text.specs.Decimal.{decimal}
use Rattle.text.specs.Inner.Put.{Fits, Leads}
use Rattle.text.specs.Inner.Ready.{Ready}
use Rattle.text.proofs.Digits.{three_digits}
use Rattle.text.proofs.Readies.{puts_lead, item_leads, ready_leads}
use Rattle.text.proofs.ready.put_small.Lts
use Rattle.text.proofs.ready.put_small.Tie as tie
use Rattle.text.proofs.ready.put_small.Reads
use Rattle.text.proofs.ready.put_small.Goals as goal

-- places on the way, by the names that the toolchain gives them
abbrev After-put_low : Type 0
After-put_low = Lts.After-put_low tie.the-claims Reads.Pre Reads.Post

abbrev After-put_word-a : Type 0
After-put_word-a = Lts.After-put_word tie.the-claims Reads.Pre Reads.Post

abbrev Start : Type 0
Start = Lts.Start tie.the-claims Reads.Pre Reads.Post

-- the number, as it stands ready; it has at most three digits
module _ (s : Start) where
  abbrev entry_of : ℕ
  entry_of = get_or s.args.digits.now s.args.n 0

  ready : Ready 4 16777216 entry_of (decimal s.args.n)
  ready = s.requires.2.each s.args.n s.requires.1

  few : length (decimal s.args.n) ≤ 3
  few = three_digits s.args.n (omega (arith, s.requires.1))

  key_fits : Fits s.args.key.now s.args.at s.args.out.now
  key_fits = omega (arith, s.requires.0)

key_leads : (c : After-put_word-a) → Leads c.args.key.now c.args.at c.args.out.now c.put_word-a.result c.put_word-a.new.out
key_leads c = puts_lead c.args.key.now c.args.out.now c.args.at (key_fits c.before.before.before.before) c.put_word-a.ensures

number_leads : (c : After-put_low) → Leads (decimal c.args.n) c.put_word-a.result c.put_word-a.new.out (c.put_word-a.result + entry_of c.before.before.before.before.before.before.before.before.before.before / 16777216) c.put_low.new.out
number_leads c =
    ready_leads 4 16777216 (entry_of c.before.before.before.before.before.before.before.before.before.before) (decimal c.args.n) c.put_word-a.new.out c.put_low.new.out c.put_word-a.result (ready c.before.before.before.before.before.before.before.before.before.before)
    (omega (arith, few c.before.before.before.before.before.before.before.before.before.before)) (omega (arith, (key_leads c.before.before.before.before.before.before).reaches, (key_leads c.before.before.before.before.before.before).size, c.requires.0)) c.put_low.ensures

-- the byte behind has room
behind_fits : (c : After-put_low) → c.put_word-a.result + entry_of c.before.before.before.before.before.before.before.before.before.before / 16777216 + 1 ≤ length c.put_low.new.out
behind_fits c =
    omega (arith, (key_leads c.before.before.before.before.before.before).reaches, (key_leads c.before.before.before.before.before.before).size, (number_leads c).reaches, (number_leads c).size, few c.before.before.before.before.before.before.before.before.before.before, c.requires.0)

pub overflow_cast-w : goal.overflow_cast-w
overflow_cast-w c = omega (arith, (ready c.before.before.before.before.before.before.before.before.before.before).counts, few c.before.before.before.before.before.before.before.before.before.before)

pub overflow_cast-w-2 : goal.overflow_cast-w-2
overflow_cast-w-2 c = omega (arith, (ready c.before.before.before.before.before.before.before.before.before.before.before.before.before.before).counts, few c.before.before.before.before.before.before.before.before.before.before.before.before.before.before)

pub overflow_add-a : goal.overflow_add-a
overflow_add-a c =
    omega (arith, (ready c.before.before.before.before.before.before.before.before.before.before.before.before.before.before).counts, few c.before.before.before.before.before.before.before.before.before.before.before.before.before.before, (key_leads c.before.before.before.before.before.before.before.before.before.before).reaches, c.requires.0)

pub put_byte-requires : goal.put_byte-requires
put_byte-requires c = behind_fits c.before.before.before.before

pub returns : goal.returns
returns c =
    item_leads c.args.key.now (decimal c.args.n) c.args.behind c.args.out.now c.args.at (key_leads c.before.before.before.before.before.before.before.before.before.before.before.before.before) (number_leads c.before.before.before.before.before.before.before)
    (puts_lead (c.args.behind ∷ []) c.put_low.new.out (c.put_word-a.result + entry_of c.before.before.before.before.before.before.before.before.before.before.before.before.before.before.before.before.before / 16777216) (behind_fits c.before.before.before.before.before.before.before) c.put_byte.ensures)
