-- `give` meets its contract.
use native.Mathlib.Omega.{arith}
use lib.ListN.{length-set}
use Rattle.live.proofs.PlaceLaws.{given}
use Rattle.live.proofs.places.give.Goals as goal

pub bounds-rows-p-2 : goal.bounds-rows-p-2
bounds-rows-p-2 c = simp length-set (omega (arith, c.copy_row.ensures.size, c.requires.1, c.requires.4))

pub bounds-marks-p-2 : goal.bounds-marks-p-2
bounds-marks-p-2 c = simp length-set (omega (arith, c.requires.2, c.requires.4))

pub bounds-opened-t : goal.bounds-opened-t
bounds-opened-t c = simp length-set (omega (arith, c.requires.0))

pub returns : goal.returns
returns c = given c.requires.1 c.requires.3 c.requires.4 c.copy_row.ensures
