-- The search for clashing writers.
use Rattle.std.specs.Prelude.{◌≡◌, Bool, false, List, ℕ, suc, ◌+◌, ◌≤◌, ◌<◌, length, get_or, Option, MatchOption}
use Rattle.words.specs.Tests.{◌below◌, ◌and◌, some, lowest}
use Rattle.verdict.specs.Limits.{transactions, objects}
use Rattle.verdict.specs.declared.snapshots.Clash.{Clash}
use Rattle.verdict.specs.Log.{kind, tx, committed, commit_step, commits_writer}
use Rattle.verdict.specs.Snapshot.{overlap, clash, wrong_commit}

module _ (log : List ℕ) where
  -- p committed before step j and overlaps t
  unfoldable pub partner : ℕ → ℕ → ℕ → Bool
  partner j t p = committed log p and commit_step log p below j and overlap log t p

  -- the table has, for each object, a number that is above b just where one of the first j steps, later than b, commits a writer of it
  pub record LastCommits (j : ℕ) (table : List ℕ) : Type 0 where
    pub size : length table ≡ objects
    pub entry : (x : ℕ) → x < objects → (b : ℕ) → (b below get_or table x 0) ≡ some j (λ i. b below i and commits_writer log x i)

  -- step j is noted in the table of the last commits, and r is who commits there, or nobody where no clash can be
  pub record CommitNoted (j : ℕ) (r : Option ℕ) (table : List ℕ) : Type 0 where
    pub last : LastCommits (j + 1) table
    pub told : MatchOption r ((p : ℕ) → clash log j p ≡ false) (λ t. (kind log j ≡ 4) × (tx log j ≡ t) × (t ≤ transactions))

  -- the first step below k that commits the later of two clashing writers, with its lowest-numbered partner; or there is none
  abbrev pub FirstClash : ℕ → Option Clash → Type 0
  FirstClash k r =
      MatchOption r (some k (wrong_commit transactions log) ≡ false)
      (λ c. (c.step < k) × (c.step ≡ lowest k (wrong_commit transactions log)) × (c.partner ≡ lowest (suc transactions) (clash log c.step)))
