-- The kinds of a dependency: ww, which is 1, from a write to a write; wr, 2, from a write to a read; rw, 3, from a read to a write. Each is on an object.
use Rattle.std.specs.Prelude.{Bool, ℕ}
use Rattle.words.specs.Tests.{some}
use Rattle.verdict.specs.Limits.{objects}

-- one of some kind on some object
unfoldable pub some_dependency : (ℕ → ℕ → Bool) → Bool
some_dependency on = some objects (λ x. some 4 (λ k. on x k))
