-- What the loop of `all_zero` keeps.
use mathlib.Core.Path.{◌≡◌}
use lib.ListN.{drop}
use Rattle.words.specs.Tests.{◌is◌}
use Rattle.words.specs.Lists.{all}
use Rattle.verdict.proofs.following.all_zero.Given as goal

abbrev pub invariant-loop-i : goal.invariant-loop-i
invariant-loop-i l = all (λ t. t is 0) (drop l.k l.order) ≡ all (λ t. t is 0) (drop l.i l.order)
