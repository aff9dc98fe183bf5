-- Which proposals will do: with the commits of all members taken back the log is fine, and turning any single member back into a commit spoils that.
-- Versions are counted afresh, since all is said of the log after the change. Transactions are at most `most`.
use Rattle.std.specs.Prelude.{◌≡◌, Bool, true, List, ℕ}
use Rattle.plan.specs.TakenBack.{taken_back, ◌but◌}
use Rattle.plan.specs.Fine.{Fine}

module _ (most : ℕ) (log : List ℕ) where
  -- t cannot be spared: turned back alone, it leaves a log that is not fine
  abbrev pub Needs : (ℕ → Bool) → ℕ → Type 0
  Needs back t = Fine most (taken_back (back but t) log) → ⊥

  pub record WillDo (back : ℕ → Bool) : Type 0 where
    pub fine : Fine most (taken_back back log)
    pub needed : (t : ℕ) → back t ≡ true → Needs back t
