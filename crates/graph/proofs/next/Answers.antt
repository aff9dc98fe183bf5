-- `next` meets its contract.
use mathlib.Core.Path.{◌≡◌}
use native.Mathlib.Omega.{arith}
use lib.ListN.{length}
use Rattle.words.specs.Lists.{zeros}
use Rattle.graph.proofs.Answers.{order_short, next_follows}
use borrow.Author.Rules.{rules}
use Rattle.graph.proofs.next.Goals as goal

pub follow-requires : goal.follow-requires
follow-requires c =
    let size : length c.args.part ≡ 2 = search rules in
    (order_short _ _ size _ c.requires, omega arith, c.requires)

pub returns : goal.returns
unfolding zeros
returns c =
    let size : length c.args.part ≡ 2 = search rules in
    next_follows _ _ size _ _ c.in_ok-count.ensures
