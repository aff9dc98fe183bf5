-- What the loop of `pass` keeps.
use mathlib.Core.Path.{◌≡◌}
use mathlib.Core.List.{List}
use Prim.Native.Nat.{ℕ, ◌≤◌}
use lib.ListN.{length}
use Rattle.live.specs.Inner.Forgetting.{LeastOpen}
use Rattle.live.proofs.ForgetPasses.{Passing}
use Rattle.live.proofs.room.pass.Given as goal

abbrev pub invariant-loop-p : goal.invariant-loop-p
invariant-loop-p l =
    (l.n ≤ 128) × (length l.rows ≡ 8643) × (length l.edges ≡ 256) × ((opened : List ℕ) → LeastOpen opened l.n l.least → Passing opened l.initial.rows l.initial.edges l.n l.least l.p l.gone l.rows l.edges)
