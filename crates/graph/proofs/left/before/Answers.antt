-- `before` meets its contract.
use mathlib.Core.Path.{◌≡◌, sym, ◌∙◌}
use mathlib.Core.Bool.{true}
use lib.ListN.{length}
use Rattle.graph.specs.Matrix.{takes_part}
use Rattle.graph.proofs.Marks.{part→, before_none, before_some}
use borrow.Author.Rules.{rules}
use Rattle.graph.proofs.left.before.Goals as goal

-- b is left
stands : (c : goal.After-row) → takes_part 128 c.args.left c.args.b ≡ true
stands c = sym c.takes_part.ensures ∙ c.if-not-takes_part.false

pub returns-then-not-takes_part : goal.returns-then-not-takes_part
returns-then-not-takes_part c = before_none _ _ _ (sym c.takes_part.ensures ∙ c.if-not-takes_part.true)

pub dropped-requires : goal.dropped-requires
dropped-requires c = let p = part→ 128 _ _ (stands c) in (p.low, p.high)

pub returns : goal.returns
returns c =
    let size : length c.args.left ≡ 2 = search rules in
    before_some _ _ _ size (stands c.before.before) _ _ _ c.row.ensures c.dropped.ensures c.common.ensures
