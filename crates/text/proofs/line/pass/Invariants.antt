-- What the loop of `pass` keeps.
use Rattle.std.proofs.Common.{◌≡◌, ◌≤◌, length}
use Rattle.text.proofs.Runs.{Gone}
use Rattle.text.proofs.line.pass.Given as goal

abbrev pub invariant-loop-i : goal.invariant-loop-i
invariant-loop-i l =
    (l.place ≤ length l.text) × (length l.steps ≡ length l.initial.steps) × Gone l.text l.at l.initial.steps l.i l.place l.steps
