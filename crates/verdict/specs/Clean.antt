-- Clean reads. Only reads of committed transactions are judged, and a read from the reader itself is never a fault.
use Rattle.std.specs.Prelude.{Bool, List, ℕ}
use Rattle.words.specs.Tests.{◌is◌, ◌below◌, ◌and◌, ◌or◌, fails, provided◌then◌else◌, some, lowest}
use Rattle.verdict.specs.Log.{steps, tx, obj, src, reads, writes, wrote, committed, aborted}
use Rattle.verdict.specs.Answers.{Fault, Own, Aborted, Unfinal, Cleanness}

-- the step of a fault
unfoldable pub fault_step : Fault → ℕ
fault_step (Own k) = k
fault_step (Aborted k) = k
fault_step (Unfinal k) = k

module _ (log : List ℕ) where
  -- step i is a judged read; and one from another
  unfoldable pub judged : ℕ → Bool
  judged i = reads log i and committed log (tx log i)

  unfoldable pub judged_other : ℕ → Bool
  judged_other i = judged i and fails (src log i is tx log i)

  -- the transaction of step i wrote its object in an earlier step
  unfoldable pub after_own_write : ℕ → Bool
  after_own_write i = wrote log i (tx log i) (obj log i)

  -- t writes x in a step later than i
  unfoldable pub writes_later : ℕ → ℕ → ℕ → Bool
  writes_later i t x = some (steps log) (λ j. i below j and writes log t x j)

  -- source 0, or a committed source that writes the object in no later step
  unfoldable pub final_source : ℕ → Bool
  final_source i = src log i is 0 or (committed log (src log i) and fails (writes_later i (src log i) (obj log i)))

  -- a judged read from another is faulty after its own write, and where its source is not final
  unfoldable pub own_fault : ℕ → Bool
  own_fault i = judged_other i and after_own_write i

  unfoldable pub source_fault : ℕ → Bool
  source_fault i = judged_other i and fails (final_source i)

  unfoldable pub faulty_read : ℕ → Bool
  faulty_read i = own_fault i or source_fault i

  unfoldable pub is_clean : Bool
  is_clean = fails (some (steps log) faulty_read)

  -- the fault of a faulty step: own after its own write, else aborted if the source aborted, otherwise unfinal
  unfoldable pub fault_at : ℕ → Fault
  fault_at k = provided after_own_write k then Own k else provided aborted log (src log k) then Aborted k else Unfinal k

  -- the verdict: yes, or the lowest faulty step
  unfoldable pub cleanness : Cleanness
  cleanness = provided is_clean then Cleanness.Yes else Cleanness.Unclean (fault_at (lowest (steps log) faulty_read))
