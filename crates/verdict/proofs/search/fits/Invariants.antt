-- What the loop of `fits` keeps.
use Rattle.std.proofs.Common.{◌≡◌, ◌*◌, ◌≤◌}
use Rattle.verdict.specs.Limits.{transactions, objects}
use Rattle.verdict.specs.Inner.Placing.{NeededOf}
use Rattle.verdict.proofs.NeededMarks.{Asked}
use Rattle.verdict.proofs.search.fits.Given as goal

abbrev pub invariant-loop-x : goal.invariant-loop-x
invariant-loop-x l = (l.row ≡ l.t * objects) × (l.t ≤ transactions) × NeededOf l.need l.t l.marks × Asked l.need l.last l.t l.marks l.x-iterator.0
