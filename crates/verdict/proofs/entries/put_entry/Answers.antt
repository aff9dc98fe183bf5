-- `put_entry` meets its contract.
use mathlib.Core.Path.{refl}
use Rattle.verdict.specs.Inner.Reasons.{entry_put}
use Rattle.verdict.proofs.entries.put_entry.Goals as goal

pub returns : goal.returns
unfolding entry_put
returns c = refl
