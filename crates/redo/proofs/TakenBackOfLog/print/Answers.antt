-- The members of the proposal are within it.
use mathlib.Core.Path.{sym}
use lib.Seq.{length-take-le}
use Rattle.redo.proofs.Members.{members_within}
use Rattle.redo.proofs.TakenBackOfLog.print.Goals as goal

pub slice_bounds-members-end : goal.slice_bounds-members-end
slice_bounds-members-end g c = members_within c.args.log.now c.in-Ok.is c.redo.ensures

pub slice_bounds-print_numbers-end-in-Ok : goal.slice_bounds-print_numbers-end-in-Ok
slice_bounds-print_numbers-end-in-Ok g c =
    sym (length-take-le _ _ (members_within c.args.log.now c.in-Ok.is c.redo.ensures))
