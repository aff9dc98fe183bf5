-- `join_around` meets its contract.
use mathlib.Core.Path.{sym, ◌∙◌}
use native.Mathlib.Omega.{arith}
use Rattle.live.proofs.AroundLaws.{joining_none, joining_more, joining_all, joining_before}
use Rattle.live.proofs.around.join_around.Goals as goal

pub shape_of-edges-then-not-any : goal.shape_of-edges-then-not-any
shape_of-edges-then-not-any c = c.lent_join.ensures.size

pub returns-then-not-any : goal.returns-then-not-any
returns-then-not-any c =
    let p = c.requires in
    joining_before p.0 p.1 p.2 p.3 (sym c.any.ensures ∙ c.if-not-any.true) c.lent_join.ensures

pub loop-q-init : goal.loop-q-init
loop-q-init c = let q = c.requires in (q.3, c.lent_join.ensures.size ∙ q.0, joining_none _ _ _)

pub join_one-requires : goal.join_one-requires
join_one-requires c = let i = c.loop-q.invariant in i.2.size ∙ i.1

pub loop-q-preserved : goal.loop-q-preserved
loop-q-preserved c =
    let i = c.loop-q.invariant in
    let p = c.requires in (i.0, i.1, joining_more p.1 p.2 (omega arith) c.with_vertex-only.ensures i.2 c.join_one.ensures)

pub shape_of-edges : goal.shape_of-edges
shape_of-edges c = c.loop-q.invariant.2.size ∙ c.lent_join.ensures.size

pub returns : goal.returns
returns c =
    let p = c.requires in
    joining_all p.0 p.1 p.2 (omega arith) c.lent_join.ensures c.loop-q.invariant.2
