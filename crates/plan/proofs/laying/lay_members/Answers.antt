-- `lay_members` meets its contract. At each turn those below t are laid.
use Rattle.std.proofs.Common.{◌≡◌, ◌∙◌, refl, arith}
use Rattle.plan.specs.Inner.Marks.{table}
use Rattle.plan.proofs.Rising.{laid_none}
use Rattle.plan.proofs.laying.lay_members.Goals as goal

pub loop-t-init : goal.loop-t-init
loop-t-init c = (refl, laid_none _ _ c.requires.2)

pub lay_member-count-requires : goal.lay_member-count-requires
lay_member-count-requires c = (c.requires.0, c.requires.1, omega arith, c.loop-t.invariant.1)

pub loop-t-preserved : goal.loop-t-preserved
loop-t-preserved c = (c.lay_member-count.auto.proposal ∙ c.loop-t.invariant.0, c.lay_member-count.ensures)

pub shape_of-proposal : goal.shape_of-proposal
shape_of-proposal c = c.loop-t.invariant.0

pub returns : goal.returns
returns c = let e : c.loop-t.t ≡ table = omega arith in rw e at c.loop-t.invariant.1
