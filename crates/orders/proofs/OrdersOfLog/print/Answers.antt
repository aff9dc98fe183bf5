-- Printing the orders is safe: an order that is shown is within the witness.
use borrow.Author.Rules.{rules}
use Rattle.verdict.specs.Refusal.{log_refusal}
use Rattle.orders.proofs.Bringing.{members_within, few_members}
use Rattle.orders.proofs.OrdersOfLog.print.Goals as goal

pub print_order-requires : goal.print_order-requires
print_order-requires g c =
    let within = members_within (log_refusal c.args.log.now) c.in-Ok.is c.in-Order.is c.version.ensures in
    (few_members c.in-Order.n c.version.new.witness within (search rules), within)
