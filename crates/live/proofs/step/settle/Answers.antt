-- `settle` meets its contract.
use mathlib.Core.Path.{sym, ◌∙◌}
use native.Mathlib.Omega.{arith}
use lib.ListN.{length-set}
use Rattle.live.proofs.Notes.{lowered_size, settled}
use Rattle.live.proofs.step.settle.Goals as goal

pub bounds-rows-p-2 : goal.bounds-rows-p-2
bounds-rows-p-2 c =
    let p = c.requires in
    simp length-set (omega (arith, c.put_last.ensures.size, p.1, p.5))

pub lower_bar-requires : goal.lower_bar-requires
lower_bar-requires c =
    let p = c.requires in
    simp length-set (c.put_last.ensures.size ∙ p.1)

pub shape_of-rows : goal.shape_of-rows
shape_of-rows c = let p = c.requires in rw c.lower_bar.ensures (lowered_size _ _ (simp length-set (c.put_last.ensures.size ∙ p.1)) ∙ sym p.1)

pub returns : goal.returns
returns c =
    let p = c.requires in
    settled (record { opened = p.0; rows = p.1; marks = p.2; edges = p.3 }) p.4 p.5 c.writes.ensures c.join_around.ensures c.put_last.ensures c.lower_bar.ensures
