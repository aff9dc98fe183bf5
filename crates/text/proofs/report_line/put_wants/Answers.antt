-- `put_wants` meets its contract: each case has its words.
use mathlib.Core.List.{List, ◌++◌}
use Prim.Native.Nat.{ℕ}
use Rattle.text.specs.Bytes.{bytes, blank, line_end}
use Rattle.text.specs.Decimal.{decimal}
use Rattle.text.specs.Line.{item}
use Rattle.text.specs.ReportLine.{wants}
use Rattle.text.specs.Inner.Put.{Fits}
use Rattle.text.proofs.Puts.{first_fits, then_fits, both_put, known_fits, known_puts}
use Rattle.text.proofs.report_line.put_wants.Lts
use Rattle.text.proofs.report_line.put_wants.Tie as tie
use Rattle.text.proofs.report_line.put_wants.Reads
use Rattle.text.proofs.report_line.put_wants.Goals as goal

-- places on the way, by the names that the toolchain gives them
abbrev In-Committed : Type 0
In-Committed = Lts.Past-After-known_told tie.the-claims Reads.Pre Reads.Post

-- a transaction and its step, which have room
abbrev of_writer : In-Committed → List ℕ
of_writer c = item (bytes "wants ") (decimal c.in-Committed.t) blank

abbrev from_step : In-Committed → List ℕ
from_step c = item (bytes "from ") (decimal c.in-Committed.s) line_end

both_fit : (c : In-Committed) → Fits (of_writer c ++ from_step c) c.args.at c.args.out.now
unfolding wants
both_fit c = known_fits wants c.in-Committed.is c.args.out.now c.args.at c.requires

pub put_word-requires : goal.put_word-requires
unfolding wants bytes
put_word-requires c =
    known_fits wants c.in-Store.is c.args.out.now c.args.at c.requires

pub put_item-a-requires : goal.put_item-a-requires
unfolding bytes
put_item-a-requires c =
    first_fits (of_writer c.before.before.before) (from_step c.before.before.before) c.args.out.now c.args.at (both_fit c.before.before.before)

pub put_item-requires : goal.put_item-requires
unfolding bytes
put_item-requires c =
    then_fits (of_writer c.before.before.before.before.before.before.before.before.before) (from_step c.before.before.before.before.before.before.before.before.before) c.args.out.now c.args.at (both_fit c.before.before.before.before.before.before.before.before.before) c.put_item-a.ensures

pub put_item-requires-in-Reader : goal.put_item-requires-in-Reader
unfolding wants bytes
put_item-requires-in-Reader c =
    known_fits wants c.in-Reader.is c.args.out.now c.args.at c.requires

pub returns-in-Store : goal.returns-in-Store
unfolding wants bytes
returns-in-Store c =
    known_puts wants c.in-Store.is c.args.out.now c.args.at c.put_word.ensures

pub returns-in-Committed : goal.returns-in-Committed
unfolding wants bytes
returns-in-Committed c =
    known_puts wants c.in-Committed.is c.args.out.now c.args.at
    (both_put (of_writer c.before.before.before.before.before.before.before.before.before.before.before.before.before) (from_step c.before.before.before.before.before.before.before.before.before.before.before.before.before) c.args.out.now c.args.at (both_fit c.before.before.before.before.before.before.before.before.before.before.before.before.before) c.put_item-a.ensures c.put_item.ensures)

pub returns-in-Reader : goal.returns-in-Reader
unfolding wants bytes
returns-in-Reader c =
    known_puts wants c.in-Reader.is c.args.out.now c.args.at c.put_item-in-Reader.ensures
