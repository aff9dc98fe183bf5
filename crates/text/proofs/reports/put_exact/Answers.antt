-- `put_exact` meets its contract: over, or what the answer holds is told behind its key.
use native.Mathlib.Omega.{arith}
use Prim.Native.Nat.{◌≤◌}
use lib.ListN.{length}
use Rattle.text.specs.Bytes.{bytes}
use Rattle.text.specs.ReportLine.{over_line}
use Rattle.text.specs.Report.{ExactLine, exact_line}
use Rattle.text.specs.Inner.Put.{most_exact}
use Rattle.text.proofs.Tells.{line_fits, line_puts, over_line_told, exact_told}
use Rattle.text.proofs.Room.{exact_fits}
use Rattle.text.proofs.reports.put_exact.Lts
use Rattle.text.proofs.reports.put_exact.Tie as tie
use Rattle.text.proofs.reports.put_exact.Reads
use Rattle.text.proofs.reports.put_exact.Goals as goal

-- places on the way, by the names that the toolchain gives them
abbrev In-Over : Type 0
In-Over = Lts.Past-After-enum_told tie.the-claims Reads.Pre Reads.Post

-- the line where number 13 applies
told_over : (c : In-Over) → ExactLine c.args.log.now over_line
told_over c = over_line_told c.requires.1 c.in-Over.is

short_over : (c : In-Over) → length over_line ≤ most_exact
short_over c = exact_fits c.args.log.now c.requires.0 (told_over c)

pub put_word-requires : goal.put_word-requires
unfolding over_line bytes
put_word-requires c = omega (arith, short_over c.before.before.before.before, c.requires.2)

pub put_answer-requires : goal.put_answer-requires
unfolding bytes
put_answer-requires c =
    let log = c.args.log.now in
    let h = exact_told c.requires.1 c.in-Searched.is in
    let line = exact_line h.0 h.1.right in
    line_fits h.1 most_exact (ExactLine log) (bytes "exact=") line (exact_fits log c.requires.0 line) c.args.out.now c.args.at c.requires.2

pub returns-in-Over : goal.returns-in-Over
unfolding over_line bytes
returns-in-Over c =
    (over_line, told_over c.before.before.before.before.before.before.before, short_over c.before.before.before.before.before.before.before, c.put_word.ensures)

pub returns-in-Searched : goal.returns-in-Searched
unfolding bytes
returns-in-Searched c =
    let log = c.args.log.now in
    let h = exact_told c.requires.1 c.in-Searched.is in
    let line = exact_line h.0 h.1.right in
    line_puts h.1 most_exact (ExactLine log) (bytes "exact=") line (exact_fits log c.requires.0 line) c.args.out.now c.args.at c.put_answer.ensures
