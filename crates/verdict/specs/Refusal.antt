-- The numbers that turn a call away, each with its place: the first that applies, in the order of 01's table.
use Rattle.std.specs.Prelude.{Bool, true, false, List, ℕ, zero, suc, ◌%◌, length, Ok, Err}
use Rattle.words.specs.Tests.{◌is◌, ◌below◌, ◌upto◌, ◌and◌, ◌or◌, fails, provided◌then◌else◌}
use Rattle.verdict.specs.Limits.{transactions, objects, most_steps, witness_buffer, order_entries, work_bytes, most_searched}
use Rattle.verdict.specs.Log.{steps, kind, tx, obj, src, begun, ended, wrote, committed_count}
use Rattle.verdict.specs.Answers.{Checked, Passed, Refused}

infix 8 ◌at◌when◌
infixr 5 ◌else_try◌
-- number n at this place, given exactly when the test passes
unfoldable pub ◌at◌when◌ : ℕ → ℕ → Bool → Checked
n at place when true = Refused n place
n at place when false = Passed

-- the first of two that applies
unfoldable pub ◌else_try◌ : Checked → Checked → Checked
(Ok _) else_try r = r
(Err refusal) else_try r = Err refusal

-- the first that applies at 0, 1, 2 .. below n
unfoldable pub tried : ℕ → (ℕ → Checked) → Checked
tried zero f = Passed
tried (suc n) f = tried n f else_try f n

-- object and source, as the kind of the step allows them
unfoldable pub object_allowed : ℕ → ℕ → Bool
object_allowed k x = provided k is 2 or k is 3 then x below objects else x is 0

unfoldable pub source_allowed : ℕ → ℕ → Bool
source_allowed k s = provided k is 2 then s upto transactions else s is 0

-- 3 to 6: the numbers of a step at this place, of kind k, with transaction t, object x and source s
unfoldable pub range_refusal : ℕ → ℕ → ℕ → ℕ → ℕ → Checked
range_refusal place k t x s =
    3 at place when fails (1 upto k and k upto 5)
    else_try 4 at place when fails (1 upto t and t upto transactions)
    else_try 5 at place when fails (object_allowed k x)
    else_try 6 at place when fails (source_allowed k s)

module _ (log : List ℕ) where
  -- 7 and 8: a begin of what has begun before; another step of what has not begun, or has ended
  unfoldable pub life_refusal : ℕ → Checked
  life_refusal i =
      let k = kind log i in
      let t = tx log i in
      7 at i when k is 1 and begun log i t
      else_try 8 at i when fails (k is 1) and (fails (begun log i t) or ended log i t)

  -- 9: the source is not 0 and wrote the object in no earlier step
  unfoldable pub source_refusal : ℕ → Checked
  source_refusal i =
      let s = src log i in
      9 at i when kind log i is 2 and fails (s is 0) and fails (wrote log i s (obj log i))

  -- 3 to 9, all of them on one step
  unfoldable pub step_refusal : ℕ → Checked
  step_refusal i = range_refusal i (kind log i) (tx log i) (obj log i) (src log i) else_try life_refusal i else_try source_refusal i

  -- 11, for one transaction: begun and not ended
  unfoldable pub open_refusal : ℕ → Checked
  open_refusal t = 11 at t when begun log (steps log) t and fails (ended log (steps log) t)

  -- 1 to 11: what is wrong with the log itself
  unfoldable pub log_refusal : Checked
  log_refusal =
      1 at 0 when fails (length log % 4 is 0)
      else_try 2 at 0 when most_steps below steps log
      else_try tried (steps log) step_refusal
      else_try tried (suc transactions) open_refusal

  -- 13, of the exact search alone
  unfoldable pub search_refusal : Checked
  search_refusal = 13 at committed_count log when most_searched below committed_count log

-- 12, before all others: a lent buffer has a wrong length
unfoldable pub work_refusal : List ℕ → Checked
work_refusal work = 12 at 0 when fails (length work is work_bytes)

unfoldable pub witness_refusal : List ℕ → Checked
witness_refusal witness = 12 at 0 when fails (length witness is witness_buffer)

-- .. or the order handed to "next"
unfoldable pub order_refusal : List ℕ → Checked
order_refusal order = 12 at 0 when fails (length order is order_entries)
