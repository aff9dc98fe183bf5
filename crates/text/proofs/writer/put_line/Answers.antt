-- `put_line` meets its contract: four parts, one after another.
use native.Mathlib.Omega.{arith}
use mathlib.Core.List.{List, ◌++◌}
use Prim.Native.Nat.{ℕ, ◌+◌, ◌*◌, ◌≤◌}
use lib.ListN.{length, length-append}
use Rattle.verdict.specs.Log.{kind, tx, obj, src}
use Rattle.text.specs.Bytes.{bytes, blank, line_end}
use Rattle.text.specs.Decimal.{decimal}
use Rattle.text.specs.Line.{item, op, line}
use Rattle.text.specs.Inner.Put.{Leads}
use Rattle.text.specs.Inner.StepLine.{line_of}
use Rattle.text.proofs.Digits.{item_length}
use Rattle.text.proofs.Readies.{both_lead}
use Rattle.text.proofs.writer.put_line.Lts
use Rattle.text.proofs.writer.put_line.Tie as tie
use Rattle.text.proofs.writer.put_line.Reads
use Rattle.text.proofs.writer.put_line.Goals as goal

-- places on the way, by the names that the toolchain gives them
abbrev After-put_op-a : Type 0
After-put_op-a = Lts.After-put_op tie.the-claims Reads.Pre Reads.Post

abbrev After-put_small-b : Type 0
After-put_small-b = Lts.After-put_small tie.the-claims Reads.Pre Reads.Post

abbrev After-put_small-c : Type 0
After-put_small-c = Lts.After-put_small2 tie.the-claims Reads.Pre Reads.Post

abbrev Start : Type 0
Start = Lts.Start tie.the-claims Reads.Pre Reads.Post

-- the four parts
module _ (s : Start) where
  abbrev log : List ℕ
  log = s.args.log.now

  abbrev part₁ : List ℕ
  part₁ = op (kind log s.args.i)

  abbrev part₂ : List ℕ
  part₂ = item (bytes "tx=") (decimal (tx log s.args.i)) blank

  abbrev part₃ : List ℕ
  part₃ = item (bytes "obj=") (decimal (obj log s.args.i)) blank

  abbrev part₄ : List ℕ
  part₄ = item (bytes "from=") (decimal (src log s.args.i)) line_end

  -- they have room, and so has what is put too far
  room : s.args.at + 8 + (length part₁ + length part₂ + length part₃ + length part₄) ≤ length s.args.out.now
  unfolding line_of line
  room = omega (arith, s.requires.3, length-append (part₁ ++ part₂ ++ part₃) part₄, length-append (part₁ ++ part₂) part₃, length-append part₁ part₂)

  -- no part is empty
  long₂ : 4 ≤ length part₂
  unfolding bytes
  long₂ = omega (arith, item_length (bytes "tx=") (decimal (tx log s.args.i)) blank)

  long₄ : 6 ≤ length part₄
  unfolding bytes
  long₄ = omega (arith, item_length (bytes "from=") (decimal (src log s.args.i)) line_end)

-- what each call has put
put₁ : (c : After-put_op-a) → Leads (part₁ c.before.before.before.before.before) c.args.at c.args.out.now c.put_op-a.result c.put_op-a.new.out
unfolding kind
put₁ c = c.put_op-a.ensures

put₂ : (c : After-put_small-b) → Leads (part₂ c.before.before.before.before.before.before.before.before.before.before.before.before) c.put_op-a.result c.put_op-a.new.out c.put_small-b.result c.put_small-b.new.out
unfolding tx bytes
put₂ c = c.put_small-b.ensures

put₃ : (c : After-put_small-c) → Leads (part₃ c.before.before.before.before.before.before.before.before.before.before.before.before.before.before.before.before.before.before.before) c.put_small-b.result c.put_small-b.new.out c.put_small-c.result c.put_small-c.new.out
unfolding obj bytes
put₃ c = c.put_small-c.ensures

pub overflow_mul-n : goal.overflow_mul-n
overflow_mul-n c = omega arith

pub put_op-a-requires : goal.put_op-a-requires
unfolding kind
put_op-a-requires c = omega (arith, room c.before.before.before.before.before, long₂ c.before.before.before.before.before)

pub overflow_cast-log : goal.overflow_cast-log
overflow_cast-log c =
    omega (arith, c.shared_slice_known-3-1.given (4 * c.args.i + 1))

pub put_small-b-requires : goal.put_small-b-requires
unfolding tx bytes
put_small-b-requires c =
    (omega (arith, room c.before.before.before.before.before.before.before.before.before.before.before.before, (put₁ c.before.before.before.before.before.before.before).reaches, (put₁ c.before.before.before.before.before.before.before).size), c.requires.1.0, c.requires.2)

pub overflow_cast-log-2 : goal.overflow_cast-log-2
overflow_cast-log-2 c =
    omega (arith, c.shared_slice_known-4-1.given (4 * c.args.i + 2))

pub put_small-c-requires : goal.put_small-c-requires
unfolding obj bytes
put_small-c-requires c =
    (omega (arith, room c.before.before.before.before.before.before.before.before.before.before.before.before.before.before.before.before.before.before.before, (put₁ c.before.before.before.before.before.before.before.before.before.before.before.before.before.before).reaches, (put₁ c.before.before.before.before.before.before.before.before.before.before.before.before.before.before).size, (put₂ c.before.before.before.before.before.before.before).reaches, (put₂ c.before.before.before.before.before.before.before).size), c.requires.1.1, c.requires.2)

pub overflow_cast-log-3 : goal.overflow_cast-log-3
overflow_cast-log-3 c =
    omega (arith, c.shared_slice_known-5-1.given (4 * c.args.i + 3))

pub put_small-requires : goal.put_small-requires
unfolding src bytes
put_small-requires c = (
  omega (arith, room c.before.before.before.before.before.before.before.before.before.before.before.before.before.before.before.before.before.before.before.before.before.before.before.before.before.before, long₄ c.before.before.before.before.before.before.before.before.before.before.before.before.before.before.before.before.before.before.before.before.before.before.before.before.before.before, (put₁ c.before.before.before.before.before.before.before.before.before.before.before.before.before.before.before.before.before.before.before.before.before).reaches, (put₁ c.before.before.before.before.before.before.before.before.before.before.before.before.before.before.before.before.before.before.before.before.before).size, (put₂ c.before.before.before.before.before.before.before.before.before.before.before.before.before.before).reaches, (put₂ c.before.before.before.before.before.before.before.before.before.before.before.before.before.before).size, (put₃ c.before.before.before.before.before.before.before).reaches, (put₃ c.before.before.before.before.before.before.before).size),
  c.requires.1.2,
  c.requires.2,
)

pub returns : goal.returns
unfolding line_of line src bytes
returns c =
    let l = c.args.out.now in
    let at = c.args.at in
    both_lead (part₁ c.before.before.before.before.before.before.before.before.before.before.before.before.before.before.before.before.before.before.before.before.before.before.before.before.before.before.before.before.before ++ part₂ c.before.before.before.before.before.before.before.before.before.before.before.before.before.before.before.before.before.before.before.before.before.before.before.before.before.before.before.before.before ++ part₃ c.before.before.before.before.before.before.before.before.before.before.before.before.before.before.before.before.before.before.before.before.before.before.before.before.before.before.before.before.before) (part₄ c.before.before.before.before.before.before.before.before.before.before.before.before.before.before.before.before.before.before.before.before.before.before.before.before.before.before.before.before.before) l at
    (both_lead (part₁ c.before.before.before.before.before.before.before.before.before.before.before.before.before.before.before.before.before.before.before.before.before.before.before.before.before.before.before.before.before ++ part₂ c.before.before.before.before.before.before.before.before.before.before.before.before.before.before.before.before.before.before.before.before.before.before.before.before.before.before.before.before.before) (part₃ c.before.before.before.before.before.before.before.before.before.before.before.before.before.before.before.before.before.before.before.before.before.before.before.before.before.before.before.before.before) l at (both_lead (part₁ c.before.before.before.before.before.before.before.before.before.before.before.before.before.before.before.before.before.before.before.before.before.before.before.before.before.before.before.before.before) (part₂ c.before.before.before.before.before.before.before.before.before.before.before.before.before.before.before.before.before.before.before.before.before.before.before.before.before.before.before.before.before) l at (put₁ c.before.before.before.before.before.before.before.before.before.before.before.before.before.before.before.before.before.before.before.before.before.before.before.before) (put₂ c.before.before.before.before.before.before.before.before.before.before.before.before.before.before.before.before.before)) (put₃ c.before.before.before.before.before.before.before.before.before.before)) c.put_small.ensures
