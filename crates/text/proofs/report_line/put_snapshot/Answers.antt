-- `put_snapshot` meets its contract: each case has its line.
use mathlib.Core.List.{List, ◌++◌}
use Prim.Native.Nat.{ℕ}
use Rattle.text.specs.Bytes.{bytes, blank, line_end}
use Rattle.text.specs.Decimal.{decimal}
use Rattle.text.specs.Line.{item}
use Rattle.text.specs.ReportLine.{wants, snapshot_line}
use Rattle.text.specs.Inner.Put.{Fits}
use Rattle.text.proofs.Puts.{first_fits, then_fits, both_put, known_fits, known_puts}
use Rattle.text.proofs.report_line.put_snapshot.Lts
use Rattle.text.proofs.report_line.put_snapshot.Tie as tie
use Rattle.text.proofs.report_line.put_snapshot.Reads
use Rattle.text.proofs.report_line.put_snapshot.Goals as goal

-- places on the way, by the names that the toolchain gives them
abbrev In-Read : Type 0
In-Read = Lts.Past-After-known_told tie.the-claims Reads.Pre Reads.Post

abbrev In-Write : Type 0
In-Write = Lts.Past-After-known_told2 tie.the-claims Reads.Pre Reads.Post

-- the two parts of a wrong read's line, which has room
abbrev at_read : In-Read → List ℕ
at_read c = item (bytes "snapshot=read at ") (decimal c.in-Read.k) blank

abbrev what_wanted : In-Read → List ℕ
what_wanted c = wants c.in-Read.writer

read_fits : (c : In-Read) → Fits (at_read c ++ what_wanted c) c.args.at c.args.out.now
unfolding snapshot_line
read_fits c = known_fits snapshot_line c.in-Read.is c.args.out.now c.args.at c.requires

-- the two parts of a wrong write's line, which has room
abbrev at_step : In-Write → List ℕ
at_step c = item (bytes "snapshot=write at ") (decimal c.in-Write.k) blank

abbrev with_partner : In-Write → List ℕ
with_partner c = item (bytes "with ") (decimal c.in-Write.t) line_end

write_fits : (c : In-Write) → Fits (at_step c ++ with_partner c) c.args.at c.args.out.now
unfolding snapshot_line
write_fits c = known_fits snapshot_line c.in-Write.is c.args.out.now c.args.at c.requires

pub put_word-requires : goal.put_word-requires
unfolding snapshot_line bytes
put_word-requires c =
    known_fits snapshot_line c.in-Yes.is c.args.out.now c.args.at c.requires

pub put_item-a-requires : goal.put_item-a-requires
unfolding bytes
put_item-a-requires c =
    first_fits (at_read c.before.before.before) (what_wanted c.before.before.before) c.args.out.now c.args.at (read_fits c.before.before.before)

pub put_wants-requires : goal.put_wants-requires
unfolding bytes
put_wants-requires c =
    then_fits (at_read c.before.before.before.before.before.before.before) (what_wanted c.before.before.before.before.before.before.before) c.args.out.now c.args.at (read_fits c.before.before.before.before.before.before.before) c.put_item-a.ensures

pub put_item-a-requires-in-Write : goal.put_item-a-requires-in-Write
unfolding bytes
put_item-a-requires-in-Write c =
    first_fits (at_step c.before.before.before) (with_partner c.before.before.before) c.args.out.now c.args.at (write_fits c.before.before.before)

pub put_item-requires : goal.put_item-requires
unfolding bytes
put_item-requires c =
    then_fits (at_step c.before.before.before.before.before.before.before.before.before) (with_partner c.before.before.before.before.before.before.before.before.before) c.args.out.now c.args.at (write_fits c.before.before.before.before.before.before.before.before.before) c.put_item-a-in-Write.ensures

pub returns-in-Yes : goal.returns-in-Yes
unfolding snapshot_line bytes
returns-in-Yes c =
    known_puts snapshot_line c.in-Yes.is c.args.out.now c.args.at c.put_word.ensures

pub returns-in-Read : goal.returns-in-Read
unfolding snapshot_line bytes
returns-in-Read c =
    known_puts snapshot_line c.in-Read.is c.args.out.now c.args.at
    (both_put (at_read c.before.before.before.before.before.before.before.before.before.before.before) (what_wanted c.before.before.before.before.before.before.before.before.before.before.before) c.args.out.now c.args.at (read_fits c.before.before.before.before.before.before.before.before.before.before.before) c.put_item-a.ensures c.put_wants.ensures)

pub returns-in-Write : goal.returns-in-Write
unfolding snapshot_line bytes
returns-in-Write c =
    known_puts snapshot_line c.in-Write.is c.args.out.now c.args.at
    (both_put (at_step c.before.before.before.before.before.before.before.before.before.before.before.before.before) (with_partner c.before.before.before.before.before.before.before.before.before.before.before.before.before) c.args.out.now c.args.at (write_fits c.before.before.before.before.before.before.before.before.before.before.before.before.before) c.put_item-a-in-Write.ensures c.put_item.ensures)
