-- What the loop of `alike` keeps.
use Rattle.words.specs.Tests.{◌is◌}
use Rattle.live.specs.Inner.Table.{sees_at}
use Rattle.live.proofs.Comparisons.{Compared}
use Rattle.live.proofs.comparing.alike.Given as goal

abbrev pub invariant-loop-x : goal.invariant-loop-x
invariant-loop-x l = Compared l.marks (λ x. sees_at l.rows l.p x is sees_at l.rows l.q x) l.same l.x-iterator.0
