-- What the loop of `put_entries` keeps.
use mathlib.Core.Path.{◌≡◌}
use lib.ListN.{length, take}
use Rattle.verdict.specs.Witness.{entries_in}
use Rattle.text.specs.Inner.Put.{Puts}
use Rattle.text.specs.ReportLine.{spelled_all}
use Rattle.text.proofs.report_line.put_entries.Given as goal

abbrev pub invariant-loop-i : goal.invariant-loop-i
invariant-loop-i l =
    (length l.out ≡ length l.initial.out) × Puts (spelled_all (take l.i (entries_in l.n l.list))) l.at l.initial.out l.place l.out
