-- What is shown of the graph of a log: an order, or a cycle of committed transactions with its reasons.
use mathlib.Core.Path.{◌≡◌}
use mathlib.Core.Bool.{Bool, true}
use mathlib.Core.List.{List}
use Prim.Native.Nat.{ℕ, suc, ◌<◌}
use lib.ListN.{length, get_or}
use Rattle.words.proofs.Truth.{and→}
use Rattle.graph.specs.Cycle.{is_cycle}
use Rattle.graph.specs.Shows.{Shape, Shows}
use Rattle.graph.specs.Shows as shows
use Rattle.verdict.specs.Limits.{transactions}
use Rattle.verdict.specs.Log.{committed}
use Rattle.verdict.specs.Reason.{with_reasons}
use Rattle.verdict.specs.Outcome.{order, cycle, OfGraph, shows_order, shows_cycle}
use Rattle.verdict.specs.Conflict.{conflict_on, conflict_edge}
use Rattle.verdict.specs.Version.{version_on, version_edge}
use Rattle.verdict.specs.Inner.Reasons.{numbered, Ring, Best}
use Rattle.verdict.proofs.WellFormed.{Well}
use Rattle.verdict.proofs.Versions.{committed_range}
use Rattle.verdict.proofs.Matrices.{Between}
use Rattle.verdict.proofs.LeastReasons.{edge_at, cycle_ring, numbered_reasons}

module _ {log : List ℕ} {edge : ℕ → ℕ → Bool} {w : List ℕ} where
  pub shown_order : {on : ℕ → ℕ → ℕ → ℕ → Bool} → Shows (suc transactions) (committed log) edge Shape.Order w → {v : List ℕ} → v ≡ w → OfGraph transactions log edge on (order v)
  shown_order h f = rw f (shows_order h)

  pub shown_cycle : {on : ℕ → ℕ → ℕ → ℕ → Bool} → Shows (suc transactions) (committed log) edge Shape.Cycle w → {v : List ℕ} → v ≡ w
      → (is_cycle edge v ≡ true) × OfGraph transactions log edge on (cycle (with_reasons on v))
  shown_cycle h f = rw f (go h, shows_cycle h)
    where
      go : Shows (suc transactions) (committed log) edge Shape.Cycle w → is_cycle edge w ≡ true
      go (shows.shows_cycle f) = f.one

-- A CYCLE OF COMMITTED TRANSACTIONS
module _ {log : List ℕ} {edge : ℕ → ℕ → Bool} (between : Between log edge) (c : List ℕ) (y : is_cycle edge c ≡ true) where
  pub each_committed : (i : ℕ) → i < length c → committed log (get_or c i 0) ≡ true
  each_committed i h = between.from _ _ (edge_at edge c y i h)

  pub ring_of : Well transactions log → Ring c
  ring_of well = cycle_ring edge (λ a b h. committed_range log well a (between.from a b h)) c y

-- THE REASONS THAT ARE FOUND ARE THE CYCLE'S
module _ (log : List ℕ) (numbers c : List ℕ) where
  pub conflict_said : is_cycle (conflict_edge log) c ≡ true → Best c (conflict_on log) numbers → numbered numbers c ≡ with_reasons (conflict_on log) c
  unfolding conflict_edge
  conflict_said y b = numbered_reasons (conflict_on log) numbers c b (λ i h. (and→ (edge_at (conflict_edge log) c y i h)).1)

  pub version_said : is_cycle (version_edge log) c ≡ true → Best c (version_on log) numbers → numbered numbers c ≡ with_reasons (version_on log) c
  unfolding version_edge
  version_said y b = numbered_reasons (version_on log) numbers c b (λ i h. (and→ (edge_at (version_edge log) c y i h)).1)
