-- `lowest_beginning` meets its contract.
use mathlib.Core.Path.{◌≡◌}
use mathlib.Core.Bool.{true, false}
use Rattle.std.proofs.Common.{rules, tests}
use Rattle.std.proofs.lemmas.Iterator.{first_from_Range}
use Rattle.graph.specs.Inner.Peel.{may_begin}
use Rattle.graph.proofs.Begins.{lowest_from}
use Rattle.graph.proofs.left.lowest_beginning.Goals as goal

pub returns : goal.returns
returns c =
    lowest_from _ _ c.args.start c.find.result
    (first_from_Range _ _ _ _ (λ v. may_begin c.args.m.now c.args.left v ≡ true) (λ v. may_begin c.args.m.now c.args.left v ≡ false) c.find.ensures.ran
    (λ x q k. search (rules, tests))
    (λ x q k. (search rules, search (rules, tests))))
