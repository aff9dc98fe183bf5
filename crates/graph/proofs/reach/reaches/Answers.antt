-- `reaches` meets its contract.
use mathlib.Core.Path.{sym, ◌∙◌}
use borrow.Author.Rules.{rules}
use Rattle.graph.proofs.Marks.{part→}
use Rattle.graph.proofs.Reached.{reached_nobody, reached_none, reached_found, reached_more, reached_less, reached_all}
use Rattle.graph.proofs.reach.reaches.Goals as goal

pub returns-then-not-any : goal.returns-then-not-any
returns-then-not-any c = reached_nobody _ _ _ (sym c.any.ensures ∙ c.if-not-any.true)

pub loop-u-init : goal.loop-u-init
loop-u-init c = reached_none _ _ _ (search rules)

pub returns-then-any : goal.returns-then-any
returns-then-any c = reached_found c.loop-u.invariant _ c.common.ensures (sym c.any-in-Some.ensures ∙ c.if-any.true)

pub dropped-requires : goal.dropped-requires
dropped-requires c = let p = part→ 128 _ _ c.in-Some.ensures.one in (p.low, p.high)

pub loop-u-smaller : goal.loop-u-smaller
loop-u-smaller c =
    reached_less c.loop-u.invariant _ c.in-Some.ensures.one _ _ _ _ _ c.lent_row.ensures c.minus-new.ensures c.union-more.ensures c.dropped.ensures c.union-next.ensures

pub loop-u-preserved : goal.loop-u-preserved
loop-u-preserved c =
    reached_more c.loop-u.invariant _ c.in-Some.ensures.one _ _ _ _ _ c.lent_row.ensures c.minus-new.ensures c.union-more.ensures c.dropped.ensures c.union-next.ensures
    (search rules) _ c.common.ensures (sym c.any-in-Some.ensures ∙ c.if-any.false)

pub returns : goal.returns
returns c = reached_all c.loop-u.invariant c.in_default.ensures
