-- Every well_formed log has an answer of each verdict.
use mathlib.Core.Path.{◌≡◌, refl}
use mathlib.Core.List.{List}
use Prim.Native.Nat.{ℕ, suc}
use Rattle.verdict.specs.Log.{committed}
use Rattle.verdict.specs.declared.answers.Cleanness.{Cleanness}
use Rattle.verdict.specs.declared.answers.Cleanness.TheVariants.{Yes, Unclean}
use Rattle.verdict.specs.Clean.{cleanness}
use Rattle.verdict.specs.Outcome.{Outcome, unclean}
use Rattle.verdict.specs.Conflict.{conflict_on, conflict_edge, Conflict}
use Rattle.verdict.specs.Version.{version_on, version_edge, Version, version, version_unclean}
use Rattle.verdict.specs.Exact.{Exact}
use Rattle.verdict.specs.Next.{Next}
use Rattle.words.proofs.Truth.{and→, fails→, isnt→}
use Rattle.graph.proofs.Greedy.{shows_some}
use Rattle.verdict.proofs.WellFormed.{Well}
use Rattle.verdict.proofs.Cleanly.{cleanness_clean}
use Rattle.verdict.proofs.Computed.{outcome_of, of_graph, conflict_ends, version_ends, judge_exact, exact_right, judge_next, next_right}

module _ {most : ℕ} (log : List ℕ) (well : Well most log) where
  pub conflict_some : (a : Outcome) × Conflict most log a
  unfolding conflict_edge
  conflict_some =
      let s = shows_some (suc most) (committed log) (conflict_edge log) (conflict_ends log well) (λ a e. isnt→ (fails→ (and→ (and→ (and→ e).0).0).0) refl) in
      (outcome_of (conflict_on log) s.0 s.1, of_graph s.0 s.1 s.2)

  pub version_some : (a : Outcome) × Version most log a
  unfolding version_edge
  version_some = go (cleanness log) refl
    where
      go : (c : Cleanness) → cleanness log ≡ c → (a : Outcome) × Version most log a
      go (Unclean f) e = (unclean f, version_unclean e)
      go Yes e =
          let s = shows_some (suc most) (committed log) (version_edge log) (version_ends log well (cleanness_clean log e)) (λ a h. isnt→ (fails→ (and→ (and→ (and→ h).0).0).0) refl) in
          (outcome_of (version_on log) s.0 s.1, version e (of_graph s.0 s.1 s.2))

pub exact_some : (most : ℕ) (log : List ℕ) → (a : Outcome) × Exact most log a
exact_some most log = (judge_exact most log, exact_right most log)

pub next_some : (most : ℕ) (log v : List ℕ) → (a : Outcome) × Next most log v a
next_some most log v = (judge_next most log v, next_right most log v)
