-- What the loop of `keeps` keeps.
use mathlib.Core.Path.{◌≡◌}
use lib.ListN.{length, drop}
use Rattle.graph.specs.Matrix.{matrix_order}
use Rattle.graph.proofs.order.keeps.Given as goal

abbrev pub invariant-loop-v : goal.invariant-loop-v
invariant-loop-v l = (length l.left ≡ 2) × (matrix_order 128 l.m l.initial.left l.given ≡ matrix_order 128 l.m l.left (drop l.v-index l.given))
