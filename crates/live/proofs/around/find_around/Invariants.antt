-- What the loop of `find_around` keeps.
use mathlib.Core.Path.{◌≡◌}
use Prim.Native.Nat.{◌≤◌}
use lib.ListN.{length}
use Rattle.live.specs.Inner.Around.{into_place, out_of_place}
use Rattle.live.proofs.AroundLaws.{Found}
use Rattle.live.proofs.around.find_around.Given as goal

abbrev pub invariant-loop-q : goal.invariant-loop-q
invariant-loop-q l =
    (l.n ≤ 128) × (1 ≤ l.p) × (l.p ≤ 128) × (length l.rows ≡ 8643) × (length l.marks ≡ 256) × Found (into_place l.rows l.marks l.p) l.q l.before × Found (out_of_place l.rows l.marks l.p) l.q l.after
