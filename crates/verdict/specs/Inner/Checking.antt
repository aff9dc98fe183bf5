-- The check of a log, walked once: which number applies to a step, what is noted before it, and what is learned in the end.
use Rattle.std.specs.Prelude.{◌≡◌, Bool, true, false, List, ℕ, zero, suc, ◌+◌, ◌≤◌, ◌<◌, length, get_or, Result, Err, MatchResult}
use Rattle.words.specs.Tests.{◌is◌, ◌below◌, ◌upto◌, ◌and◌, fails, provided◌then◌else◌, some, lowest}
use Rattle.graph.specs.Matrix.{takes_part}
use Rattle.verdict.specs.Limits.{transactions, objects}
use Rattle.verdict.specs.Log.{steps, kind, tx, obj, src, begun, ended}
use Rattle.verdict.specs.Refusal.{◌at◌when◌, ◌else_try◌, tried, object_allowed, source_allowed, range_refusal, step_refusal}
use Rattle.verdict.specs.Clean.{own_fault}
use Rattle.verdict.specs.Inner.Marks.{does, Committed, FirstSteps}
use Rattle.verdict.specs.Inner.WriteTable.{Versions, WriteTable}
use Rattle.verdict.specs.Inner.OwnReads.{misses}
use Rattle.verdict.specs.declared.refusal.Examined.{Examined}
use Rattle.verdict.specs.declared.taking.Asked.{Asked}
use Rattle.verdict.specs.Answers.{Refusal, Checked, Passed}

-- what a check answers: the refusal that applies, or that none does, and then what it learned
abbrev pub Checks : {A : Type 0} → Checked → (A → Type 0) → Result A Refusal → Type 0
Checks refusal learned r = MatchResult r (λ x. (refusal ≡ Passed) × learned x) (λ e. refusal ≡ Err e)

-- what a kind asks: the object and the source of a step of kind k, how far its transaction has come, and the number of a step whose transaction has not
pub record Asks (k : ℕ) (r : Asked) : Type 0 where
  pub known : (1 upto k and k upto 5) ≡ true
  pub object : (x : ℕ) → (x below objects and x below r.objects) ≡ object_allowed k x
  pub source : (s : ℕ) → (s upto r.source) ≡ source_allowed k s
  pub far : r.life ≡ (provided k is 1 then 0 else 1)
  pub number : r.late ≡ (provided k is 1 then 7 else 8)

-- 4 to 6, by what the kind asks
unfoldable pub in_range : ℕ → ℕ → ℕ → ℕ → Asked → Checked
in_range place t x s r =
    4 at place when fails (1 upto t and t upto transactions)
    else_try 5 at place when fails (x below objects and x below r.objects)
    else_try 6 at place when fails (s upto r.source)

-- 11 for one transaction, by how far each has come
unfoldable pub open_by_lives : (lives : List ℕ) → ℕ → Checked
open_by_lives lives t = 11 at t when get_or lives t 0 is 1

module _ (log : List ℕ) where
  -- how far t has come before step i: 0 not begun, 1 open, 2 ended
  unfoldable pub life : ℕ → ℕ → ℕ
  life i t = provided begun log i t then (provided ended log i t then 2 else 1) else 0

  -- the table has, for each transaction, its one step of kind k before step i, or the number of steps
  pub record StepsBefore (k i : ℕ) (table : List ℕ) : Type 0 where
    pub size : length table ≡ suc transactions
    pub none : (t : ℕ) → t ≤ transactions → some i (does log k t) ≡ false → get_or table t 0 ≡ steps log
    pub one : (t : ℕ) → t ≤ transactions → (j : ℕ) → j < i → does log k t j ≡ true → get_or table t 0 ≡ j

  -- the last to commit before step j, or 0
  unfoldable pub committer : ℕ → ℕ
  committer zero = 0
  committer (suc j) = provided kind log j is 4 then tx log j else committer j

  -- the table has, for each who commits before step i, who committed before that; entry 0 has the last
  pub record CommitOrder (i : ℕ) (table : List ℕ) : Type 0 where
    pub size : length table ≡ suc transactions
    pub last : get_or table 0 0 ≡ committer i
    pub before : (j : ℕ) → j < i → kind log j ≡ 4 → get_or table (tx log j) 0 ≡ committer j
    pub named : (j : ℕ) → j < i → kind log j ≡ 4 → 1 ≤ tx log j

  -- who commits before step i: at which step, whether, and after whom
  pub record InOrder (i : ℕ) (commits part earlier : List ℕ) : Type 0 where
    pub at_step : StepsBefore 4 i commits
    pub who : (t : ℕ) → takes_part transactions part t ≡ some i (does log 4 t)
    pub after : CommitOrder i earlier

  module _ (i : ℕ) where
    -- none of 3 to 6 applies to step i
    unfoldable pub InRange : Type 0
    InRange = range_refusal i (kind log i) (tx log i) (obj log i) (src log i) ≡ Passed

    -- the table says how far each transaction has come before step i; none ends that has not begun
    pub record Lived (lives : List ℕ) : Type 0 where
      pub size : length lives ≡ suc transactions
      pub far : (t : ℕ) → t ≤ transactions → get_or lives t 0 ≡ life i t
      pub after_begin : (t : ℕ) → ended log i t ≡ true → begun log i t ≡ true

    -- what is noted before step i: how far each has come, where each began and committed, who committed, in which order, and which versions are there
    pub record Noted (lives begins commits part earlier writes : List ℕ) : Type 0 where
      pub has_lived : Lived lives
      pub has_begun : StepsBefore 1 i begins
      pub has_committed : InOrder i commits part earlier
      pub has_written : Versions log i writes
      pub writes_size : length writes ≡ suc transactions

  -- what taking step i finds: the refusal that applies to it, or what is noted behind it and whether it misses its own write
  abbrev pub Takes : (i : ℕ) → Result Bool Refusal → (lives begins commits part earlier writes : List ℕ) → Type 0
  Takes i r lives begins commits part earlier writes =
      Checks (step_refusal log i) (λ missed. Noted (i + 1) lives begins commits part earlier writes × (missed ≡ misses log i)) r

  -- what the walk over all steps finds: the refusal that applies to one, or what is noted behind the last and whether one misses its own write
  abbrev pub Walks : Result Bool Refusal → (lives begins commits part earlier writes : List ℕ) → Type 0
  Walks r lives begins commits part earlier writes =
      Checks (tried (steps log) (step_refusal log))
      (λ missed. Noted (steps log) lives begins commits part earlier writes × (missed ≡ some (steps log) (misses log))) r

  -- what the check of a well_formed log learns
  pub record Learned (r : Examined) : Type 0 where
    pub begin_steps : FirstSteps log 1 r.begins
    pub commit_steps : FirstSteps log 4 r.commits
    pub who : Committed log r.part
    pub order : CommitOrder (steps log) r.earlier
    pub marks : WriteTable log r.writes
    pub first_own : r.own ≡ lowest (steps log) (own_fault log)

  -- what is found of a log: its refusal, or what is learned of it
  abbrev pub Examines : Checked → Result Examined Refusal → Type 0
  Examines refusal = Checks refusal Learned
