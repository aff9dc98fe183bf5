-- `bring` is safe, and each order that it brings leaves fewer to come.
use borrow.Author.Rules.{rules}
use Rattle.verdict.proofs.Listing.{order_turned}
use Rattle.orders.proofs.Bringing.{members_within, few_members, fewer_left}
use Rattle.orders.proofs.bring.Goals as goal

pub print_order-requires : goal.print_order-requires
print_order-requires g c =
    let within = members_within (order_turned c.args.log.now c.args.given) c.in-Ok.is c.in-Order.is c.next.ensures in
    (few_members c.in-Order.n c.next.new.witness within (search rules), within)

pub returns-in_ok-print_order-in-Order : goal.returns-in_ok-print_order-in-Order
returns-in_ok-print_order-in-Order g c =
    fewer_left c.args.log.now c.args.given c.in-Ok.is c.in-Order.is c.next.ensures
    c.in_ok-print_order-in-Order.ensures
