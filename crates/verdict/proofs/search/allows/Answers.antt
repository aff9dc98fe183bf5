-- `allows` meets its contract.
use mathlib.Core.Path.{sym}
use Rattle.words.specs.Tests.{◌is◌}
use Rattle.verdict.proofs.Loosely.{allows_any}
use Rattle.verdict.proofs.NeededMarks.{allows_one}
use Rattle.verdict.proofs.search.allows.Goals as goal

pub returns-then-e-eq0 : goal.returns-then-e-eq0
returns-then-e-eq0 c = sym (allows_any _ c.if-e-eq0.true)

pub returns : goal.returns
unfolding ◌is◌
returns c = allows_one _ _ c.if-e-eq0.false
