-- The vertex that an order may begin with, and the graph without it. Private contracts cite these.
use Rattle.std.specs.Prelude.{Bool, List, ℕ, suc, ◌-◌}
use Rattle.words.specs.Tests.{◌is◌, ◌below◌, ◌and◌, fails, some}
use Rattle.bits.specs.Run.{without_bit}
use Rattle.graph.specs.Matrix.{vertices, takes_part, joined}

-- an order may begin with b: it is a node, and no edge leads to it
unfoldable pub free : ℕ → (ℕ → Bool) → (ℕ → ℕ → Bool) → ℕ → Bool
free n node edge b = b below n and node b and fails (some n (λ a. edge a b))

-- the nodes without a, and the edges that do not touch a
unfoldable pub without : ℕ → (ℕ → Bool) → ℕ → Bool
without a node t = node t and fails (t is a)

unfoldable pub apart : ℕ → (ℕ → ℕ → Bool) → ℕ → ℕ → Bool
apart a edge x y = edge x y and fails (x is a) and fails (y is a)

-- of the vertices marked in `left`, v may come first
abbrev pub may_begin : List ℕ → List ℕ → ℕ → Bool
may_begin m left = free (suc vertices) (takes_part vertices left) (joined vertices m left)

-- the marks without v's
unfoldable pub unmarked : ℕ → List ℕ → List ℕ
unmarked v left = without_bit left (v - 1)
