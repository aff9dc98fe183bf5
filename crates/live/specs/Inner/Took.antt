-- What the private functions that take a step promise.
use Rattle.std.specs.Prelude.{◌≡◌, Bool, false, List, ℕ, ◌-◌, ◌≤◌, ◌<◌, length, set, Option, MatchOption}
use Rattle.words.specs.Tests.{◌is◌, ◌upto◌, ◌and◌, ◌or◌, fails, provided◌then◌else◌, some}
use Rattle.bits.specs.Word.{marked}
use Rattle.verdict.specs.Limits.{objects}
use Rattle.verdict.specs.Refusal.{object_allowed}
use Rattle.live.specs.Answers.{stands, answer_number}
use Rattle.live.specs.SoFar.{numbers}
use Rattle.live.specs.Says.{State, going, says, after}
use Rattle.live.specs.Kept.{places, full}
use Rattle.live.specs.declared.step.Live.{Live}
use Rattle.live.specs.declared.step.Told.{Told}
use Rattle.live.specs.Inner.Table.{Table, Sized, cell, status_at, sees_at, until_at, writes_at}
use Rattle.live.specs.Inner.Held.{Tidy, Holds}
use Rattle.live.specs.Inner.Around.{JoinsAround}

-- the first of 3 to 6 that applies; 0 if none does
unfoldable pub range_number : ℕ → ℕ → ℕ → ℕ → ℕ
range_number k t x s =
    provided fails (1 upto k and k upto 5) then 3
    else provided fails (1 upto t and t upto numbers) then 4
    else provided fails (object_allowed k x) then 5
    else provided fails (k is 2 or s is 0) then 6
    else 0

-- the first of 3 to 6 that applies, or none does
abbrev pub FirstApplies : (k t x s : ℕ) → Option ℕ → Type 0
FirstApplies k t x s found = MatchOption found (0 ≡ range_number k t x s) (λ n. (n ≡ range_number k t x s) × (n ≡ 0 → ⊥))

-- a commit at place p would be a breach, as the rows say it
unfoldable pub rows_breach : List ℕ → List ℕ → ℕ → Bool
rows_breach rows marks p = status_at rows p is 1 or some 64 (λ x. marked (writes_at marks p) x and fails (sees_at rows 0 x is sees_at rows p x))

-- the four buffers together
abbrev pub table : (opened rows marks edges : List ℕ) → Table
table opened rows marks edges = record { opened = opened; rows = rows; marks = marks; edges = edges }

-- a commit at place p of transaction t is kept: it is open no more, its row says so and which number was the highest then, and it is the last writer
-- of what it wrote
pub record Settles (b : Table) (before after : List ℕ) (p t top n : ℕ) (b' : Table) : Type 0 where
  pub closes : b'.opened ≡ set b.opened (p - 1) 0
  pub joins : JoinsAround b.edges before after p n b'.edges
  pub size : length b'.rows ≡ length b.rows
  pub status : status_at b'.rows p ≡ 2
  pub until : until_at b'.rows p ≡ top
  pub bar : (until_at b'.rows 0 ≤ top) × (until_at b'.rows 0 ≤ until_at b.rows 0)
  pub last : (x : ℕ) → x < objects → sees_at b'.rows 0 x ≡ (provided marked (writes_at b.marks p) x then t else sees_at b.rows 0 x)
  pub others : (q c : ℕ) → 1 ≤ q → c < 67 → (q ≡ p → c ≡ 1 → ⊥) → (q ≡ p → c ≡ 66 → ⊥) → cell b'.rows q c ≡ cell b.rows q c

-- a step is taken: the answer is the one that the judge says, and the rows hold the steps accepted as before
pub record Took (l : Live) (b : Table) (k t x s : ℕ) (r : Told) (b' : Table) : Type 0 where
  pub sized : Sized b'
  pub room : r.live.count ≤ places
  pub stood : r.live.standing ≡ (provided stands r.said then answer_number r.said else l.standing)
  pub answers : (log : List ℕ) → Tidy log l.top l.count b → r.said ≡ says numbers (full numbers places) (going log) k t x s
  pub goes_on : (log : List ℕ) → Tidy log l.top l.count b → stands r.said ≡ false
      → (log' : List ℕ) × (after numbers (full numbers places) (going log) k t x s ≡ going log') × Tidy log' r.live.top r.live.count b'

-- .. whatever the state holds
pub record Takes (l : Live) (b : Table) (k t x s : ℕ) (r : Told) (b' : Table) : Type 0 where
  pub sized : Sized b'
  pub room : r.live.count ≤ places
  pub answers : (j : State) → Holds l.standing l.top l.count b j → r.said ≡ says numbers (full numbers places) j k t x s
  pub holds : (j : State) → Holds l.standing l.top l.count b j → Holds r.live.standing r.live.top r.live.count b' (after numbers (full numbers places) j k t x s)
