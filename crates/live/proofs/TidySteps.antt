-- The table holds the log and nothing more can go, one step later.
use mathlib.Core.Path.{◌≡◌}
use mathlib.Core.List.{List}
use Prim.Native.Nat.{ℕ, ◌≤◌}
use native.Mathlib.Omega.{arith}
use Rattle.live.specs.SoFar.{numbers}
use Rattle.live.specs.Kept.{places}
use Rattle.live.specs.Inner.Accepted.{Whole}
use Rattle.live.specs.Inner.Table.{Table, name_at}
use Rattle.live.specs.Inner.Held.{Place, Held, Tidy}
use Rattle.live.proofs.Grows.{Grows}
use Rattle.live.proofs.Accepted.{Good}
use Rattle.live.proofs.ForgetGrows.{rests_grows}
use Rattle.live.proofs.KeepingLaws.{keeping_begin, keeping_inside}
use Rattle.live.proofs.HeldBegin.{Placed, new, held_begin}

module _ {log log' : List ℕ} {top count k t x s : ℕ} {b b' : Table} (y : Tidy log top count b) (good : Good numbers log k t x) (g : Grows log k t x s log') where
  -- a read or a write
  pub tidy_inside : Held log' top count b' → (k ≡ 1 → ⊥) → (k ≡ 4 → ⊥) → (k ≡ 5 → ⊥) → ((q : ℕ) → Place places q → name_at b'.rows q ≡ name_at b.rows q) → Tidy log' top count b'
  tidy_inside h i j l names =
      record {
        held = h;
        keeps = y.keeps;
        keeping = keeping_inside y.held y.keeping good g h.accepted h.fine i j l names;
        rests = rests_grows y.held.accepted good g h.accepted y.held.fine h.fine j l y.keeping.forgot y.rests;
      }

  -- a begin at a free place
  pub tidy_begin : Whole log' → (begin : k ≡ 1) → {p count' : ℕ} → Place places p → name_at b.rows p ≡ 0 → Placed b b' p t → count ≤ count' → p ≤ count' → count' ≤ places → Tidy log' t count' b'
  tidy_begin whole begin {p} u free c more there room =
      let h = held_begin y.held good g whole begin u free c more there room in
      record {
        held = h;
        keeps = y.keeps;
        keeping = keeping_begin y.held y.keeping good g h.accepted h.fine begin u free c.name c.names (new y.held good g whole begin u free c);
        rests = rests_grows y.held.accepted good g h.accepted y.held.fine h.fine (λ (e : k ≡ 4). omega arith) (λ (e : k ≡ 5). omega arith) y.keeping.forgot y.rests;
      }
