-- `with_if` meets its contract.
use mathlib.Core.Path.{sym}
use Rattle.words.proofs.Truth.{or_no, and_no_right}
use Rattle.live.proofs.AroundLaws.{joined_if}
use Rattle.live.proofs.around.with_if.Goals as goal

pub returns-then-joins : goal.returns-then-joins
returns-then-joins c = joined_if _ _ _ c.if-joins.true c.with_vertex.ensures

pub returns : goal.returns
returns c = λ v. sym (or_no _ (and_no_right _ c.if-joins.false))
