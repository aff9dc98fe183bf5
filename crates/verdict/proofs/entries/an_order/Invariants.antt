-- What the loop of `an_order` keeps.
use mathlib.Core.Path.{◌≡◌}
use Prim.Native.Nat.{ℕ, ◌≤◌}
use lib.ListN.{length}
use Rattle.verdict.specs.Limits.{transactions, witness_buffer}
use Rattle.verdict.specs.Reason.{Entry}
use Rattle.verdict.proofs.Threes.{first_entries}
use Rattle.verdict.proofs.entries.an_order.Given as goal

-- a member alone
abbrev pub alone : ℕ → Entry
alone t = record { transaction = t; kind = 0; object = 0 }

abbrev pub invariant-loop-i : goal.invariant-loop-i
invariant-loop-i l =
    (length l.members ≤ transactions) × (length l.list ≡ witness_buffer) × (l.list ≡ first_entries alone l.members l.i)
