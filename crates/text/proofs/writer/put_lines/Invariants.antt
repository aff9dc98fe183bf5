-- What the loop of `put_lines` keeps.
use Rattle.text.specs.Text.{lines}
use Rattle.text.specs.Inner.Put.{Leads}
use Rattle.text.proofs.writer.put_lines.Given as goal

abbrev pub invariant-loop-i : goal.invariant-loop-i
invariant-loop-i l = Leads (lines l.i l.log) l.at l.initial.out l.place l.out
