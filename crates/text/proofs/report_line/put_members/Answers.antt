-- `put_members` meets its contract: a word and then the members.
use mathlib.Core.List.{List}
use Prim.Native.Nat.{ℕ}
use Rattle.verdict.specs.Witness.{entries_in}
use Rattle.text.specs.ReportLine.{spelled_all}
use Rattle.text.proofs.Puts.{first_fits, then_fits, both_put}
use Rattle.text.proofs.report_line.put_members.Lts
use Rattle.text.proofs.report_line.put_members.Tie as tie
use Rattle.text.proofs.report_line.put_members.Reads
use Rattle.text.proofs.report_line.put_members.Goals as goal

-- places on the way, by the names that the toolchain gives them
abbrev Start : Type 0
Start = Lts.Start tie.the-claims Reads.Pre Reads.Post

abbrev behind : Start → List ℕ
behind s = spelled_all (entries_in s.args.n s.args.list.now)

pub put_word-a-requires : goal.put_word-a-requires
put_word-a-requires c = first_fits c.args.word.now (behind c.before.before.before.before.before) c.args.out.now c.args.at c.requires.1

pub put_entries-requires : goal.put_entries-requires
put_entries-requires c =
    (c.requires.0, then_fits c.args.word.now (behind c.before.before.before.before.before.before.before.before.before) c.args.out.now c.args.at c.requires.1 c.put_word-a.ensures)

pub returns : goal.returns
returns c =
    both_put c.args.word.now (behind c.before.before.before.before.before.before.before.before.before.before.before.before) c.args.out.now c.args.at c.requires.1 c.put_word-a.ensures c.put_entries.ensures
