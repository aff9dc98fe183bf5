-- Why the loop of `print_later` ends: each turn leaves fewer orders to come.
use lib.ListN.{length}
use mathlib.Core.Path.{◌≡◌}
use Rattle.verdict.specs.Next.{up_to_zero}
use Rattle.verdict.proofs.Listing.{to_come}
use Rattle.orders.proofs.print_later.Given as goal

abbrev pub invariant-loop-next : goal.invariant-loop-next
invariant-loop-next g l = length l.work ≡ length l.initial.work

abbrev pub decreases-loop-next : goal.decreases-loop-next
decreases-loop-next g l = to_come l.log (up_to_zero l.order)
