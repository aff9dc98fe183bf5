-- `lower` meets its contract.
use mathlib.Core.Path.{sym}
use Rattle.words.proofs.Truth.{→upto, →not_upto, provided_true, provided_false}
use Rattle.verdict.proofs.snapshots.lower.Goals as goal

pub returns-then-a-b : goal.returns-then-a-b
returns-then-a-b c = sym (provided_true _ _ (→upto c.if-a-b.true))

pub returns : goal.returns
returns c = sym (provided_false _ _ (→not_upto c.if-a-b.false))
