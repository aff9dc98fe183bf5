-- What the loop of `take_part` keeps.
use lib.ListN.{length}
use Rattle.live.specs.Inner.Took.{table}
use Rattle.live.proofs.PartLaws.{Taking}
use Rattle.live.proofs.part.take_part.Given as goal

abbrev pub invariant-loop-i : goal.invariant-loop-i
invariant-loop-i l =
    Taking l.initial.state (table l.initial.opened l.initial.rows l.initial.marks l.initial.edges) l.part (length l.initial.answers) l.i l.state (table l.opened l.rows l.marks l.edges) l.answers
