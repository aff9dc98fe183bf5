-- `dropped` meets its contract.
use mathlib.Core.Path.{ap}
use Prim.Native.Nat.{ℕ, ◌-◌, ◌/◌}
use lib.ListN.{set}
use Rattle.bits.specs.Run.{without_bit}
use Rattle.graph.specs.Inner.Peel.{unmarked}
use Rattle.graph.proofs.sets.dropped.Goals as goal

pub returns : goal.returns
unfolding unmarked without_bit
returns c = ap (λ (r : ℕ). set c.args.those ((c.args.v - 1) / 64) r) c.without_mark.ensures
