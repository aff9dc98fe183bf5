-- `nearer` meets its contract.
use borrow.Author.Rules.{rules}
use Rattle.std.proofs.Common.{tests}
use Rattle.graph.specs.Matrix.{joined}
use Rattle.graph.proofs.SetWalks.{lowest_found}
use Rattle.graph.proofs.cycle.nearer.Goals as goal

pub returns : goal.returns
returns c =
    lowest_found (joined 128 c.args.m.now c.args.part c.args.a) _ _ _ (λ x q k. (search rules, search (rules, tests))) (λ x q k. search (rules, tests)) _ _ _ (search rules) c.find.ensures.ran
