-- `put_refused` meets its contract: two keys with their numbers.
use mathlib.Core.List.{List}
use Prim.Native.Nat.{ℕ}
use Rattle.text.specs.Bytes.{bytes, blank, line_end}
use Rattle.text.specs.Decimal.{decimal}
use Rattle.text.specs.Line.{item}
use Rattle.text.specs.ReportLine.{refused_line}
use Rattle.text.proofs.Puts.{first_fits, then_fits, both_put}
use Rattle.text.proofs.report_line.put_refused.Lts
use Rattle.text.proofs.report_line.put_refused.Tie as tie
use Rattle.text.proofs.report_line.put_refused.Reads
use Rattle.text.proofs.report_line.put_refused.Goals as goal

-- places on the way, by the names that the toolchain gives them
abbrev Start : Type 0
Start = Lts.Start tie.the-claims Reads.Pre Reads.Post

-- the two keys with their numbers
abbrev refused : Start → List ℕ
refused s = item (bytes "refused=") (decimal s.args.number) blank

abbrev at : Start → List ℕ
at s = item (bytes "at=") (decimal s.args.place) line_end

pub put_item-a-requires : goal.put_item-a-requires
unfolding refused_line bytes
put_item-a-requires c = first_fits (refused c.before.before.before.before) (at c.before.before.before.before) c.args.out.now 0 c.requires

pub put_item-requires : goal.put_item-requires
unfolding refused_line bytes
put_item-requires c =
    then_fits (refused c.before.before.before.before.before.before.before.before.before.before) (at c.before.before.before.before.before.before.before.before.before.before) c.args.out.now 0 c.requires c.put_item-a.ensures

pub returns : goal.returns
unfolding refused_line bytes
returns c =
    both_put (refused c.before.before.before.before.before.before.before.before.before.before.before.before.before.before) (at c.before.before.before.before.before.before.before.before.before.before.before.before.before.before) c.args.out.now 0 c.requires c.put_item-a.ensures c.put_item.ensures
