-- How far the planner has come: who is still taken back, and whom each waits for.
use Rattle.std.specs.Prelude.{◌≡◌, Bool, false, List, ℕ, ◌<◌, length, get_or, Option, MatchOption}
use Rattle.words.specs.Tests.{◌and◌, fails, some, lowest}
use Rattle.verdict.specs.Limits.{transactions}
use Rattle.verdict.specs.Log.{committed}
use Rattle.plan.specs.TakenBack.{taken_back}
use Rattle.plan.specs.Fine.{Fine}
use Rattle.plan.specs.Redo.{GivesBack}
use Rattle.plan.specs.Inner.Marks.{table, marked}
use Rattle.plan.specs.Inner.Trials.{Waits}

-- t can be tried: it is taken back, and does not wait for one that is
unfoldable pub can_try : (back waits : List ℕ) → ℕ → Bool
can_try back waits t = marked back t and fails (marked back (get_or waits t 0))

-- the lowest that can be tried, or nobody can be
abbrev pub LowestToTry : (back waits : List ℕ) → Option ℕ → Type 0
LowestToTry back waits found =
    MatchOption found (some table (can_try back waits) ≡ false) (λ t. (t < table) × (t ≡ lowest table (can_try back waits)))

-- giving back ends as it does from all that committed on; the log is fine; and who is noted to wait does
pub record Planning (log back waits : List ℕ) : Type 0 where
  pub size : length back ≡ table
  pub size_waits : length waits ≡ table
  pub none_0 : marked back 0 ≡ false
  pub goes_on : (rest : ℕ → Bool) → GivesBack transactions log (marked back) rest → GivesBack transactions log (committed log) rest
  pub fine : Fine transactions (taken_back (marked back) log)
  pub waiting : (t : ℕ) → Waits log (marked back) t (get_or waits t 0)

-- the planner is done: giving back ends with those marked
pub record Planned (log marks : List ℕ) : Type 0 where
  pub size : length marks ≡ table
  pub none_0 : marked marks 0 ≡ false
  pub ends : GivesBack transactions log (committed log) (marked marks)
