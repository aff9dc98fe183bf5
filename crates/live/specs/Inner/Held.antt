-- The rows hold the steps accepted: what they say of each transaction is what the log says.
use Rattle.std.specs.Prelude.{◌≡◌, Bool, true, false, List, ℕ, ◌≤◌, ◌<◌}
use Rattle.words.specs.Tests.{◌is◌, ◌upto◌, ◌or◌, provided◌then◌else◌}
use Rattle.bits.specs.Word.{marked}
use Rattle.graph.specs.Matrix.{in_row}
use Rattle.verdict.specs.Limits.{objects}
use Rattle.verdict.specs.Log.{steps, begun, writer, committed, commit_step}
use Rattle.live.specs.Answers.{Said, stands, answer_number}
use Rattle.live.specs.SoFar.{numbers, is_open, passed}
use Rattle.live.specs.Breach.{breached}
use Rattle.live.specs.Closed.{closed}
use Rattle.live.specs.Says.{State, going, over}
use Rattle.live.specs.Forgotten.{Forgets, Rests}
use Rattle.live.specs.Kept.{places}
use Rattle.live.specs.Inner.Accepted.{Accepted}
use Rattle.live.specs.Inner.Seen.{last_writer, seen, misreads, reads_first}
use Rattle.live.specs.Inner.Chain.{chain_edge, passed_by}
use Rattle.live.specs.Inner.Table.{Table, Sized, name_at, status_at, sees_at, until_at, open_at, writes_at, reads_at}

-- one row, of transaction u
pub record Row (log : List ℕ) (u status : ℕ) (sees : ℕ → ℕ) (writes reads : ℕ) : Type 0 where
  pub began : begun log (steps log) u ≡ true
  pub seeing : (x : ℕ) → x < objects → sees x ≡ seen log u x
  pub writing : (x : ℕ) → x < objects → marked writes x ≡ writer log x u
  pub reading : (x : ℕ) → x < objects → marked reads x ≡ reads_first log x u
  pub done : (status is 2) ≡ committed log u
  pub wrong : is_open log u ≡ true → (status is 1) ≡ misreads log u

-- one of the first n places
abbrev pub Place : ℕ → ℕ → Type 0
Place n p = (1 ≤ p) × (p ≤ n)

-- the table, with the highest number begun, is right about the log; a free place has number 0, and so has each behind the first `count`
pub record Held (log : List ℕ) (top count : ℕ) (b : Table) : Type 0 where
  pub sized : Sized b
  pub accepted : Accepted numbers log
  pub fine : breached numbers log ≡ false
  pub acyclic : closed numbers log ≡ false
  pub highest : (t : ℕ) → 1 ≤ t → passed log t ≡ (t upto top)
  pub room : count ≤ places
  pub beyond : (p : ℕ) → count < p → p ≤ places → name_at b.rows p ≡ 0
  -- no two places have one transaction
  pub once : (p q : ℕ) → Place places p → Place places q → 1 ≤ name_at b.rows p → name_at b.rows p ≡ name_at b.rows q → p ≡ q
  pub row : (p : ℕ) → Place places p → 1 ≤ name_at b.rows p → Row log (name_at b.rows p) (status_at b.rows p) (sees_at b.rows p) (writes_at b.marks p) (reads_at b.marks p)
  pub free : (p : ℕ) → Place places p → name_at b.rows p ≡ 0 → status_at b.rows p ≡ 0
  pub opened : (p : ℕ) → Place places p → open_at b.opened p ≡ (provided is_open log (name_at b.rows p) then name_at b.rows p else 0)
  pub last : (x : ℕ) → x < objects → sees_at b.rows 0 x ≡ last_writer log (steps log) x
  -- who had begun when the transaction of a place committed
  pub until : (p : ℕ) → Place places p → committed log (name_at b.rows p) ≡ true → (t : ℕ) → 1 ≤ t → passed_by log (commit_step log (name_at b.rows p)) t ≡ (t upto until_at b.rows p)
  -- row 0 has a number that none of these is below
  pub bar : (p : ℕ) → Place places p → status_at b.rows p ≡ 2 → until_at b.rows 0 ≤ until_at b.rows p
  -- the edges between places are those between their transactions
  pub edges : (p q : ℕ) → Place places p → Place places q → in_row b.edges q p ≡ chain_edge log (name_at b.rows p) (name_at b.rows q)

-- the open transactions have places, and so have those of the committed ones that are kept, and no other; the others that committed were forgotten, one after another
pub record Keeping (log : List ℕ) (b : Table) (keeps : ℕ → Bool) : Type 0 where
  pub forgot : Forgets numbers log keeps
  pub placed : (t : ℕ) → (is_open log t or keeps t) ≡ true → (p : ℕ) × Place places p × (name_at b.rows p ≡ t)
  pub only : (p : ℕ) → Place places p → 1 ≤ name_at b.rows p → (is_open log (name_at b.rows p) or keeps (name_at b.rows p)) ≡ true

-- the table holds the log, and nothing more can go
pub record Tidy (log : List ℕ) (top count : ℕ) (b : Table) : Type 0 where
  pub held : Held log top count b
  pub keeps : ℕ → Bool
  pub keeping : Keeping log b keeps
  pub rests : Rests numbers log keeps

-- what a judge holds: going on it holds the steps accepted, and after its end the answer that stands
pub data Holds (standing top count : ℕ) (b : Table) : State → Type 0 where
  holds_steps : {log : List ℕ} → standing ≡ 0 → Tidy log top count b → Holds standing top count b (going log)
  holds_answer : {a : Said} → stands a ≡ true → standing ≡ answer_number a → Holds standing top count b (over a)
