-- `list_committed` meets its contract.
use mathlib.Core.Path.{sym, ◌∙◌}
use native.Mathlib.Omega.{arith}
use Rattle.verdict.proofs.WellFormed.{well_formed}
use Rattle.verdict.proofs.Roster.{none_listed, listed_room, listed_more, listed_same, all_listed}
use Rattle.verdict.proofs.search.list_committed.Goals as goal
use Rattle.verdict.proofs.search.list_committed.Goals.{then-takes_part, else-takes_part}

pub loop-t-init : goal.loop-t-init
loop-t-init c = none_listed _ (well_formed _ c.requires.0)

pub takes_part-requires : goal.takes_part-requires
takes_part-requires c = (omega arith, omega arith)

-- there is room for t, which committed
pub bounds-list-count : goal.bounds-list-count
bounds-list-count c =
    let says = sym (c.requires.1.mark _) ∙ sym c.takes_part.ensures in
    listed_room _ (well_formed _ c.requires.0) c.loop-t.invariant c.requires.2 (omega arith) (says ∙ c.if-takes_part.true)

pub offset_bounds-list-count : goal.offset_bounds-list-count
offset_bounds-list-count c =
    let says = sym (c.requires.1.mark _) ∙ sym c.takes_part.ensures in
    omega (arith, listed_room _ (well_formed _ c.requires.0) c.loop-t.invariant c.requires.2 (omega arith) (says ∙ c.if-takes_part.true))

pub overflow_add-count : goal.overflow_add-count
overflow_add-count c =
    let says = sym (c.requires.1.mark _) ∙ sym c.takes_part.ensures in
    omega (arith, listed_room _ (well_formed _ c.requires.0) c.loop-t.invariant c.requires.2 (omega arith) (says ∙ c.if-takes_part.true))

pub loop-t-preserved : goal.loop-t-preserved
loop-t-preserved c =
    let inv = c.loop-t.invariant in
    let well = well_formed _ c.requires.0 in
    let says = sym (c.requires.1.mark _) ∙ sym c.takes_part.ensures in elim c.if-takes_part.branch [
      | then-takes_part w ↦
          let yes = says ∙ w.if-takes_part.true in
          rw (w.list-is, w.count-is) (listed_more _ well inv (listed_room _ well inv c.requires.2 (omega arith) yes) yes)
      | else-takes_part w ↦ rw (w.list-is, w.count-is) (listed_same _ well inv (says ∙ w.if-takes_part.false))
    ]

pub returns : goal.returns
returns c = all_listed _ (well_formed _ c.requires.0) c.loop-t.invariant (omega arith)
