-- What the loop of `reaches` keeps, and why it ends.
use Rattle.words.specs.Tests.{count}
use Rattle.graph.proofs.Reached.{Reached, to_do}
use Rattle.graph.proofs.reach.reaches.Given as goal

abbrev pub invariant-loop-u : goal.invariant-loop-u
invariant-loop-u l = Reached l.m l.from l.initial.all l.all l.front

abbrev pub decreases-loop-u : goal.decreases-loop-u
decreases-loop-u l = count 129 (to_do l.all l.front)
