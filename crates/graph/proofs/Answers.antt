-- What `sort` and `next` answer, from what was found and laid into zeros.
use mathlib.Core.Path.{◌≡◌, subst, fun_ext, ◌∙◌}
use mathlib.Core.Bool.{Bool, true, false}
use mathlib.Core.List.{List}
use Rattle.std.specs.Prelude.{Some}
use Prim.Native.Nat.{ℕ, ◌≤◌}
use native.Mathlib.Omega.{arith}
use lib.ListN.{length}
use Rattle.words.specs.Tests.{some}
use Rattle.words.specs.Lists.{zeros}
use Rattle.words.specs.First.{dictionary, shorter, First, later}
use Rattle.graph.specs.Matrix.{takes_part, joined, matrix_order, Sorts, Follows}
use Rattle.graph.specs.Cycle.{is_cycle}
use Rattle.graph.specs.Shows.{shows_order, shows_cycle}
use Rattle.graph.specs.Inner.Laying.{Places, Later}
use Rattle.graph.specs.Inner.Distances.{Cycled}
use Rattle.graph.specs.declared.Members.{Members}
use Rattle.graph.specs.declared.Shown.{Shown}
use Rattle.words.proofs.Truth.{and→}
use Rattle.graph.proofs.Sized.{order_size, order_acyclic, most}
use Rattle.graph.proofs.Laid.{laid_entries}

module _ (m part : List ℕ) (size : length part ≡ 2) where
  pub order_short : (w : List ℕ) → matrix_order 128 m part w ≡ true → length w ≤ 128
  order_short w h = omega (arith, order_size 128 m part w (omega arith) h, most 128 m part)

  pub next_follows : (v : List ℕ) (r : Members) → Later m part v 0 (zeros 128) r.count r.list → Follows 128 m part v (Some r)
  unfolding later
  next_follows v r f =
      record {
        members = f.members;
        right = f.first;
        listed = f.lies ∙ laid_entries 128 f.members (order_short f.members (and→ f.first.one).0);
        counted = omega (arith, f.counted);
      }

  pub sort_order : (r : Members) (rest : List ℕ) → Places m part 0 (zeros 128) r.count rest r.list → some 129 (takes_part 128 rest) ≡ false → Sorts 128 m part (Shown.Order r)
  unfolding matrix_order
  sort_order r rest p h =
      let f : First dictionary (matrix_order 128 m part) p.placed = p.order h in
      record {
        members = p.placed;
        right = shows_order (order_acyclic 128 m part p.placed f.one) f;
        listed = p.lies ∙ laid_entries 128 p.placed (order_short p.placed f.one);
        counted = omega (arith, p.counted);
      }

-- no cycle goes through what was placed, so the first one of the rest is the first of all
pub sort_cycle : (m part rest : List ℕ) (r : Members) → ((c : List ℕ) → is_cycle (joined 128 m rest) c ≡ is_cycle (joined 128 m part) c) → Cycled m rest (zeros 128) r.count r.list → Sorts 128 m part (Shown.Cycle r)
sort_cycle m part rest r around c =
    record {
      members = c.members;
      right = shows_cycle (subst (λ (p : List ℕ → Bool). First shorter p c.members) (fun_ext around) c.first);
      listed = c.lies ∙ laid_entries 128 c.members c.room;
      counted = c.counted;
    }
