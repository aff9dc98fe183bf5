-- What a call of the live judge answers, and what it leaves in the lent buffers.
use Rattle.std.specs.Prelude.{◌≡◌, List, map, ℕ, ◌/◌, ◌%◌, length, get_or, Result, Ok}
use Rattle.words.specs.Tests.{◌is◌, fails}
use Rattle.verdict.specs.Answers.{Checked, Passed, Refused}
use Rattle.verdict.specs.declared.answers.Refusal.{Refusal}
use Rattle.verdict.specs.Refusal.{◌at◌when◌, ◌else_try◌}
use Rattle.live.specs.Answers.{answer_number}
use Rattle.live.specs.SoFar.{numbers}
use Rattle.live.specs.Says.{State, all_says, after_all}
use Rattle.live.specs.Kept.{places, full}
use Rattle.live.specs.Inner.Table.{opened_entries, row_numbers, mark_words, edge_words}
use Rattle.live.specs.Inner.Held.{Holds}

-- the lent buffers that hold the state
pub record Buffers : Type 0 where
  pub state : List ℕ
  pub opened : List ℕ
  pub rows : List ℕ
  pub marks : List ℕ
  pub edges : List ℕ

abbrev pub buffers : (state opened rows marks edges : List ℕ) → Buffers
buffers state opened rows marks edges = record { state = state; opened = opened; rows = rows; marks = marks; edges = edges }

abbrev pub state_numbers : ℕ
state_numbers = 3

-- 1, here before 12: the part's length is no multiple of 4; and 12: a buffer has a wrong length, or the answers have not one entry a step
unfoldable pub call_refusal : Buffers → (part answers : List ℕ) → Checked
call_refusal b part answers =
    1 at 0 when fails (length part % 4 is 0)
    else_try 12 at 0 when fails (length b.state is state_numbers)
    else_try 12 at 0 when fails (length b.opened is opened_entries)
    else_try 12 at 0 when fails (length b.rows is row_numbers)
    else_try 12 at 0 when fails (length b.marks is mark_words)
    else_try 12 at 0 when fails (length b.edges is edge_words)
    else_try 12 at 0 when fails (length answers is length part / 4)

-- the buffers hold a state of the judge
abbrev pub Keeps : Buffers → State → Type 0
Keeps b j = Holds (get_or b.state 0 0) (get_or b.state 1 0) (get_or b.state 2 0) (record { opened = b.opened; rows = b.rows; marks = b.marks; edges = b.edges }) j

-- whatever state the buffers hold: each step of the part has its answer, and the buffers hold the state after them
pub record Judges (lent : Buffers) (part : List ℕ) (left : Buffers) (answers : List ℕ) : Type 0 where
  pub answered : (j : State) → Keeps lent j → answers ≡ map answer_number (all_says numbers (full numbers places) j part)
  pub kept : (j : State) → Keeps lent j → Keeps left (after_all numbers (full numbers places) j part)

-- A call: turned away, and nothing is changed; or answered
pub data LiveCall (lent : Buffers) (part answers : List ℕ) (r : Result (Unit {0}) Refusal) (left : Buffers) (answers' : List ℕ) : Type 0 where
  turned_away : (number place : ℕ) → Refused number place ≡ call_refusal lent part answers → r ≡ Refused number place → left ≡ lent
      → answers' ≡ answers → LiveCall lent part answers r left answers'
  answered : Passed ≡ call_refusal lent part answers → r ≡ Ok tt → Judges lent part left answers'
      → LiveCall lent part answers r left answers'
