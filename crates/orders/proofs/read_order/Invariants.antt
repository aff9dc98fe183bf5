-- What the loop of `read_order` keeps: the first i members are read.
use mathlib.Core.Path.{◌≡◌}
use lib.ListN.{length, take}
use Rattle.words.specs.Lists.{entries}
use Rattle.verdict.specs.Limits.{order_entries}
use Rattle.verdict.specs.Witness.{read_off}
use Rattle.orders.proofs.read_order.Given as goal

abbrev pub invariant-loop-i : goal.invariant-loop-i
invariant-loop-i l = (length l.order ≡ order_entries) × (l.order ≡ entries order_entries (take l.i (read_off l.n l.witness)))
