-- What the loop of `join_around` keeps.
use mathlib.Core.Path.{◌≡◌}
use Prim.Native.Nat.{◌≤◌}
use lib.ListN.{length}
use Rattle.live.proofs.AroundLaws.{Joining}
use Rattle.live.proofs.around.join_around.Given as goal

abbrev pub invariant-loop-q : goal.invariant-loop-q
invariant-loop-q l =
    (l.n ≤ 128) × (length l.initial.edges ≡ 256) × Joining l.initial.edges l.after l.p l.q l.edges
