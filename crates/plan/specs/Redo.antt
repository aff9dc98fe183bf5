-- Which commits to redo: every commit is taken back at first; then again and again the lowest is given back that leaves the log fine, until none does.
-- Transactions are at most `most`.
use Rattle.std.specs.Prelude.{◌≡◌, Bool, true, List, [], ◌∷◌, ◌++◌, ℕ, zero, suc, ◌<◌}
use Rattle.words.specs.Tests.{provided◌then◌else◌}
use Rattle.verdict.specs.Log.{committed}
use Rattle.plan.specs.TakenBack.{taken_back, ◌but◌}
use Rattle.plan.specs.Fine.{Fine}
use Rattle.plan.specs.WillDo.{Needs}

-- the numbers below n that pass, rising
unfoldable pub rising : ℕ → (ℕ → Bool) → List ℕ
rising zero p = []
rising (suc n) p = rising n p ++ (provided p n then n ∷ [] else [])

module _ (most : ℕ) (log : List ℕ) where
  -- from those of `back` on, giving back ends with those of `rest` still taken back
  pub data GivesBack : (back rest : ℕ → Bool) → Type 0 where
    no_more : {back : ℕ → Bool} → ((t : ℕ) → back t ≡ true → Needs most log back t) → GivesBack back back
    one_more : {back rest : ℕ → Bool} (t : ℕ) → back t ≡ true → Fine most (taken_back (back but t) log)
        → ((u : ℕ) → u < t → back u ≡ true → Needs most log back u) → GivesBack (back but t) rest → GivesBack back rest

  -- the members that the planner writes
  pub data Redo : List ℕ → Type 0 where
    redo : {rest : ℕ → Bool} → GivesBack (committed log) rest → Redo (rising (suc most) rest)
