-- `is_marked` meets its contract.
use mathlib.Core.Path.{sym}
use native.Mathlib.Omega.{arith}
use Rattle.plan.proofs.MarkLaws.{marked_is, marked_beyond}
use Rattle.plan.proofs.marks.is_marked.Goals as goal

pub returns-then-t-gt-COUNT : goal.returns-then-t-gt-COUNT
returns-then-t-gt-COUNT c = let a = c.args in sym (marked_beyond a.marks.now a.t (omega (arith, c.requires)))

pub returns : goal.returns
returns c = marked_is _ _
