-- The verdicts of a log, computed by trying every order: for small logs. What is computed is what the definitions ask for.
use mathlib.Core.Path.{◌≡◌, refl, sym, fun_ext}
use mathlib.Core.Bool.{Bool, true}
use mathlib.Core.List.{List, [], ◌∷◌}
use mathlib.Core.Option.{Option, none, some as just}
use Prim.Native.Nat.{ℕ, suc, ◌<◌}
use native.Mathlib.Omega.{arith}
use lib.ListN.{length}
use Rattle.words.specs.First.{later}
use Rattle.words.specs.Listed.{Listed}
use Rattle.graph.specs.Shows.{Shape, Order, Cycle, Shows}
use Rattle.verdict.specs.Log.{committed}
use Rattle.verdict.specs.Clean.{is_clean, cleanness}
use Rattle.verdict.specs.Reason.{with_reasons}
use Rattle.verdict.specs.Outcome.{Outcome, order, cycle, unclean, OfGraph, shows_order, shows_cycle}
use Rattle.verdict.specs.Conflict.{conflict_on, conflict_edge, Conflict}
use Rattle.verdict.specs.Version.{version_on, version_edge, Version, version, version_unclean}
use Rattle.verdict.specs.Replay.{serial, explains_loosely, explains}
use Rattle.verdict.specs.Exact.{Exact, exact, exact_none, exact_unclean}
use Rattle.verdict.specs.Next.{Next, next, next_none}
use Rattle.verdict.specs.Inner.ConflictEdges.{plain_conflict}
use Rattle.verdict.specs.Inner.VersionEdges.{plain_version}
use Rattle.verdict.specs.declared.answers.Fault.{Fault}
use Rattle.verdict.specs.declared.answers.Cleanness.{Cleanness}
use Rattle.verdict.specs.declared.answers.Cleanness.TheVariants.{Yes, Unclean}
use Rattle.words.proofs.Truth.{and→}
use Rattle.words.proofs.Search.{tuples, sift, tuples_listed, listed_first, listed_none}
use Rattle.graph.proofs.Judge.{nodes, nodes_rise, judge_graph, judge_shows, once_over, once_length}
use Rattle.verdict.proofs.WellFormed.{Well}
use Rattle.verdict.proofs.Cleanly.{cleanness_clean}
use Rattle.verdict.proofs.Versions.{committed_range}
use Rattle.verdict.proofs.Dependencies.{plain_conflict_edge, plain_version_edge, version_leaves}

-- the first of a list, as an outcome
unfoldable pub first_or_none : List (List ℕ) → Outcome
first_or_none (w ∷ ws) = order w
first_or_none [] = Outcome.none

-- what is shown of a graph, as an outcome
unfoldable pub outcome_of : (ℕ → ℕ → ℕ → ℕ → Bool) → Shape → List ℕ → Outcome
outcome_of on Order w = order w
outcome_of on Cycle c = cycle (with_reasons on c)

unfoldable pub outcome_shown : (ℕ → ℕ → ℕ → ℕ → Bool) → Option (Shape × List ℕ) → Option Outcome
outcome_shown on (just s) = just (outcome_of on s.0 s.1)
outcome_shown on none = none

pub of_graph : {most : ℕ} {log : List ℕ} {edge : ℕ → ℕ → Bool} {on : ℕ → ℕ → ℕ → ℕ → Bool} (s : Shape) (w : List ℕ) → Shows (suc most) (committed log) edge s w
    → OfGraph most log edge on (outcome_of on s w)
unfolding outcome_of
of_graph Order w h = shows_order h
of_graph Cycle c h = shows_cycle h

module _ {ℓ} {A : Type ℓ} where
  -- a, unless the log is unclean
  unfoldable pub if_clean : Cleanness → (Fault → A) → A → A
  if_clean Yes f a = a
  if_clean (Unclean x) f a = f x

-- the graphs are tried by their plain edges, without kind and object
module _ (most : ℕ) (log : List ℕ) where
  -- the serial orders that pass, in dictionary order
  unfoldable pub orders : (List ℕ → Bool) → List (List ℕ)
  orders p = sift p (tuples (length (nodes (suc most) (committed log))) (nodes (suc most) (committed log)))

  unfoldable pub judge_conflict : Option Outcome
  judge_conflict = outcome_shown (conflict_on log) (judge_graph (suc most) (committed log) (plain_conflict log))

  unfoldable pub judge_version : Option Outcome
  judge_version = if_clean (cleanness log) (λ f. just (unclean f)) (outcome_shown (version_on log) (judge_graph (suc most) (committed log) (plain_version log)))

  unfoldable pub judge_exact : Outcome
  judge_exact = if_clean (cleanness log) unclean (first_or_none (orders (explains_loosely most log)))

  unfoldable pub judge_next : List ℕ → Outcome
  judge_next v = first_or_none (orders (later (explains most log) v))

-- WHAT EXPLAINS IS A SERIAL ORDER
pub loosely_serial : (most : ℕ) (log v : List ℕ) → explains_loosely most log v ≡ true → serial most log v ≡ true
unfolding explains_loosely
loosely_serial most log v h = (and→ (and→ h).0).1

pub explains_serial : (most : ℕ) (log v : List ℕ) → explains most log v ≡ true → serial most log v ≡ true
unfolding explains
explains_serial most log v h = loosely_serial most log v (and→ h).0

-- THE ORDERS COMPUTED ARE ALL THAT PASS
pub orders_listed : (most : ℕ) (log : List ℕ) (p : List ℕ → Bool) → ((v : List ℕ) → p v ≡ true → serial most log v ≡ true) → Listed p (orders most log p)
unfolding orders serial
orders_listed most log p serially =
    tuples_listed (length (nodes (suc most) (committed log))) p (nodes (suc most) (committed log)) (nodes_rise (suc most) (committed log))
    (λ v h. once_over (suc most) (committed log) v (serially v h)) (λ v h. once_length (suc most) (committed log) v (serially v h))

-- EDGES LEAVE COMMITTED TRANSACTIONS
module _ {most : ℕ} (log : List ℕ) (well : Well most log) where
  same_conflicts : plain_conflict log ≡ conflict_edge log
  same_conflicts = fun_ext (λ a. fun_ext (λ b. sym (plain_conflict_edge log well a b)))

  same_versions : plain_version log ≡ version_edge log
  same_versions = fun_ext (λ a. fun_ext (λ b. sym (plain_version_edge log well a b)))

  node_of : (t : ℕ) → committed log t ≡ true → (t < suc most) × (committed log t ≡ true)
  node_of t c = (omega (arith, (committed_range log well t c).1), c)

  pub conflict_ends : (a b : ℕ) → conflict_edge log a b ≡ true → (a < suc most) × (committed log a ≡ true)
  unfolding conflict_edge
  conflict_ends a b h = node_of a (and→ (and→ (and→ h).0).0).1

  pub version_ends : is_clean log ≡ true → (a b : ℕ) → version_edge log a b ≡ true → (a < suc most) × (committed log a ≡ true)
  version_ends cl a b h = node_of a (version_leaves log well a b h cl)

  -- WHAT IS COMPUTED IS WHAT IS ASKED FOR
  module _ (edge plain : ℕ → ℕ → Bool) (on : ℕ → ℕ → ℕ → ℕ → Bool) (same : plain ≡ edge) (ends : (a b : ℕ) → edge a b ≡ true → (a < suc most) × (committed log a ≡ true)) where
    graph_right : (a : Outcome) (o : Option (Shape × List ℕ)) → judge_graph (suc most) (committed log) plain ≡ o → outcome_shown on o ≡ just a → OfGraph most log edge on a
    unfolding outcome_shown
    graph_right a none h f = let z : ◌≡◌ {A = ℕ} 0 1 = cc in absurd (omega arith)
    graph_right a (just u) h f =
        let z : outcome_of on u.0 u.1 ≡ a = cc in
        rw (← z) (of_graph u.0 u.1 (judge_shows (suc most) (committed log) edge ends u (rw same at h)))

  pub conflict_right : (a : Outcome) → judge_conflict most log ≡ just a → Conflict most log a
  unfolding judge_conflict
  conflict_right a e = graph_right (conflict_edge log) (plain_conflict log) (conflict_on log) same_conflicts conflict_ends a _ refl e

  pub version_right : (a : Outcome) → judge_version most log ≡ just a → Version most log a
  unfolding judge_version if_clean
  version_right a e = go (cleanness log) refl e
    where
      go : (c : Cleanness) → cleanness log ≡ c
          → if_clean c (λ f. just (unclean f)) (outcome_shown (version_on log) (judge_graph (suc most) (committed log) (plain_version log))) ≡ just a → Version most log a
      go (Unclean x) g f = let z : unclean x ≡ a = cc in rw (← z) (version_unclean g)
      go Yes g f = version g (graph_right (version_edge log) (plain_version log) (version_on log) same_versions (version_ends (cleanness_clean log g)) a _ refl f)

pub exact_right : (most : ℕ) (log : List ℕ) → Exact most log (judge_exact most log)
unfolding judge_exact first_or_none if_clean
exact_right most log = go (cleanness log) (orders most log (explains_loosely most log)) refl refl
  where
    all_loose : Listed (explains_loosely most log) (orders most log (explains_loosely most log))
    all_loose = orders_listed most log (explains_loosely most log) (loosely_serial most log)

    at : (c : Cleanness) (ws : List (List ℕ)) → cleanness log ≡ c → orders most log (explains_loosely most log) ≡ ws → Exact most log (if_clean c unclean (first_or_none ws))
    at (Unclean x) ws g h = exact_unclean g
    at Yes [] g h = exact_none g (listed_none (rw h at all_loose))
    at Yes (w ∷ ws) g h = exact (listed_first (rw h at all_loose))

    go : (c : Cleanness) (ws : List (List ℕ)) → cleanness log ≡ c → orders most log (explains_loosely most log) ≡ ws
        → Exact most log (if_clean (cleanness log) unclean (first_or_none (orders most log (explains_loosely most log))))
    go c ws g h = rw (g, h) (at c ws g h)

pub next_right : (most : ℕ) (log v : List ℕ) → Next most log v (judge_next most log v)
unfolding judge_next first_or_none later
next_right most log v = go (orders most log (later (explains most log) v)) refl
  where
    all_later : Listed (later (explains most log) v) (orders most log (later (explains most log) v))
    all_later = orders_listed most log (later (explains most log) v) (λ u h. explains_serial most log u (and→ h).0)

    at : (ws : List (List ℕ)) → orders most log (later (explains most log) v) ≡ ws → Next most log v (first_or_none ws)
    at [] h = next_none (listed_none (rw h at all_later))
    at (w ∷ ws) h = next (listed_first (rw h at all_later))

    go : (ws : List (List ℕ)) → orders most log (later (explains most log) v) ≡ ws → Next most log v (first_or_none (orders most log (later (explains most log) v)))
    go ws h = rw h (at ws h)
