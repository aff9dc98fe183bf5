-- What the loop of `a_cycle` keeps.
use mathlib.Core.Path.{◌≡◌}
use lib.ListN.{length}
use Rattle.verdict.specs.Limits.{witness_buffer}
use Rattle.verdict.specs.Inner.Reasons.{entry_of}
use Rattle.verdict.proofs.Threes.{first_entries}
use Rattle.verdict.proofs.entries.a_cycle.Given as goal

abbrev pub invariant-loop-i : goal.invariant-loop-i
invariant-loop-i l =
    (length l.list ≡ witness_buffer) × (l.list ≡ first_entries (entry_of l.reasons) l.members l.i)
