-- `put_answer` meets its contract: the key, what is told, and LF.
use mathlib.Core.List.{List}
use Prim.Native.Nat.{ℕ}
use Rattle.text.specs.Bytes.{line_end}
use Rattle.text.specs.Inner.Told.{told}
use Rattle.text.proofs.Puts.{key_fits, value_fits, behind_fits, item_put}
use Rattle.text.proofs.report_line.put_answer.Lts
use Rattle.text.proofs.report_line.put_answer.Tie as tie
use Rattle.text.proofs.report_line.put_answer.Reads
use Rattle.text.proofs.report_line.put_answer.Goals as goal

-- places on the way, by the names that the toolchain gives them
abbrev Start : Type 0
Start = Lts.Start tie.the-claims Reads.Pre Reads.Post

-- what stands behind the key
abbrev behind_key : Start → List ℕ
behind_key s = told s.args.answer s.args.list.now

pub put_word-a-requires : goal.put_word-a-requires
put_word-a-requires c =
    key_fits c.args.key.now (behind_key c.before.before.before.before.before) line_end c.args.out.now c.args.at c.requires.1

pub put_value-b-requires : goal.put_value-b-requires
put_value-b-requires c =
    (c.requires.0, value_fits c.args.key.now (behind_key c.before.before.before.before.before.before.before.before.before) line_end c.args.out.now c.args.at c.requires.1 c.put_word-a.ensures)

pub put_byte-requires : goal.put_byte-requires
put_byte-requires c =
    behind_fits c.args.key.now (behind_key c.before.before.before.before.before.before.before.before.before.before.before.before.before) line_end c.args.out.now c.args.at c.requires.1 c.put_word-a.ensures c.put_value-b.ensures

pub returns : goal.returns
returns c =
    item_put c.args.key.now (behind_key c.before.before.before.before.before.before.before.before.before.before.before.before.before.before.before.before) line_end c.args.out.now c.args.at c.requires.1 c.put_word-a.ensures c.put_value-b.ensures c.put_byte.ensures
