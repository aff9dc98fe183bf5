-- The live judge over any calls: however a run of steps is cut into parts, each step gets its answer.
use Rattle.std.specs.Prelude.{List, [], ◌++◌, map, ℕ, Ok, Err}
use Rattle.words.specs.Lists.{zeros}
use Rattle.verdict.specs.declared.answers.Refusal.{Refusal}
use Rattle.live.specs.Answers.{answer_number}
use Rattle.live.specs.SoFar.{numbers}
use Rattle.live.specs.Says.{fresh, all_says}
use Rattle.live.specs.Kept.{places, full}
use Rattle.live.specs.LiveCall.{Buffers, state_numbers, LiveCall}
use Rattle.live.specs.Inner.Table.{opened_entries, row_numbers, mark_words, edge_words}

-- fresh buffers: all zero
unfoldable pub all_zero : Buffers
all_zero = record { state = zeros state_numbers; opened = zeros opened_entries; rows = zeros row_numbers; marks = zeros mark_words; edges = zeros edge_words }

-- calls one after another, the first with fresh buffers: the steps of the parts that were accepted, their answers, and the buffers after all
pub data Calls : (run said : List ℕ) → Buffers → Type 0 where
  no_call : Calls [] [] all_zero
  one_accepted : {run said part answers answers' : List ℕ} {lent left : Buffers} → Calls run said lent
      → LiveCall lent part answers (Ok tt) left answers' → Calls (run ++ part) (said ++ answers') left
  one_refused : {run said part answers answers' : List ℕ} {refusal : Refusal} {lent left : Buffers} → Calls run said lent
      → LiveCall lent part answers (Err refusal) left answers' → Calls run said left

-- the answers to a run of steps
unfoldable pub answers_to : List ℕ → List ℕ
answers_to run = map answer_number (all_says numbers (full numbers places) fresh run)
