-- A well_formed log is fine exactly when some serial order explains it.
use mathlib.Core.Path.{◌≡◌}
use mathlib.Core.Bool.{true}
use mathlib.Core.List.{List}
use Prim.Native.Nat.{ℕ}
use Rattle.verdict.specs.Outcome.{Outcome, shows_order, shows_cycle}
use Rattle.verdict.specs.Version.{Version, version, version_unclean}
use Rattle.verdict.specs.Replay.{explains}
use Rattle.words.proofs.Truth.{not_both}
use Rattle.verdict.proofs.WellFormed.{Well}
use Rattle.verdict.proofs.Some.{version_some}
use Rattle.verdict.proofs.Listing.{version_first, unclean_never, cycle_never}
use Rattle.plan.specs.Fine.{Fine}

module _ {most : ℕ} (log : List ℕ) (well : Well most log) where
  pub fine_explains : (f : Fine most log) → explains most log f.members ≡ true
  fine_explains f = (version_first log well f.members f.shown).one

  pub explained_fine : (w : List ℕ) → explains most log w ≡ true → Fine most log
  explained_fine w h = go (version_some log well).0 (version_some log well).1
    where
      go : (a : Outcome) → Version most log a → Fine most log
      go a (version c (shows_order {w = v} s)) = record { members = v; shown = version c (shows_order s) }
      go a (version c (shows_cycle s)) = absurd (not_both h (cycle_never log well _ (version c (shows_cycle s)) w))
      go a (version_unclean u) = absurd (not_both h (unclean_never log well _ (version_unclean u) w))
