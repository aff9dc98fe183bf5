-- `with_placed` meets its contract.
use mathlib.Core.Path.{refl}
use Rattle.verdict.proofs.search.with_placed.Goals as goal

pub returns : goal.returns
returns c = record { more = refl; taken = c.without_mark-free.ensures }
