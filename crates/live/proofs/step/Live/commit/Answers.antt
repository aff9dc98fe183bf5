-- `commit` meets its contract.
use mathlib.Core.Path.{refl, sym, subst, ◌∙◌}
use Rattle.graph.specs.Reach.{Reaches}
use Rattle.live.proofs.TookCommit.{settled_sized, commit_breach, commit_closed, commit_yes}
use Rattle.live.proofs.step.Live.commit.Goals as goal

pub returns-then-breaches : goal.returns-then-breaches
returns-then-breaches c = let p = c.requires in rw c.told.ensures (λ k x s e f. commit_breach _ x s p.0 p.2 p.1 f e p.3 p.4 (sym c.if-breaches.true ∙ c.breaches.ensures))

pub returns-then-reaches : goal.returns-then-reaches
returns-then-reaches c =
    let p = c.requires in
    rw c.told-then-reaches.ensures (λ k x s e f. commit_closed _ x s p.0 p.2 p.1 f e p.3 p.4 (sym c.if-breaches.false ∙ c.breaches.ensures) _ _ c.find_around-found.ensures.0 c.find_around-found.ensures.1
    (subst (Reaches _ _ _) c.if-reaches.true c.reaches.ensures))

pub give_back-requires : goal.give_back-requires
give_back-requires c =
    let p = c.requires in
    let size = settled_sized p.0 c.settle.ensures refl in
    (size.opened, size.rows, size.edges, p.2)

pub returns : goal.returns
returns c =
    let p = c.requires in
    rw c.told-2.ensures (λ k x s e f. commit_yes _ x s p.0 p.2 p.1 f e p.3 p.4 (sym c.if-breaches.false ∙ c.breaches.ensures) _ _ c.find_around-found.ensures.0 c.find_around-found.ensures.1
    (subst (Reaches _ _ _) c.if-reaches.false c.reaches.ensures) c.settle.ensures refl (c.give_back.ensures _))
