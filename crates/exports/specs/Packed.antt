-- The one number that a C call answers: its low 16 bits are the kind of answer, then come three values of 16 bits, 0 where there is none.
-- The kinds: 0 refused, 1 order, 2 cycle, 3 none, 4 aborted, 5 unfinal, 6 own, 7 yes, 8 read at, 9 write at, 10 accepted, 11 no.
use Rattle.std.specs.Prelude.{◌≡◌, ℕ, ◌+◌, ◌*◌, Result, Ok, Err}
use Rattle.verdict.specs.declared.answers.Fault.{Fault}
use Rattle.verdict.specs.declared.answers.Cleanness.{Cleanness}
use Rattle.verdict.specs.declared.answers.Writer.{Writer}
use Rattle.verdict.specs.declared.answers.Snapshot.{Snapshot}
use Rattle.verdict.specs.declared.answers.Answer.{Answer}
use Rattle.verdict.specs.declared.answers.Refusal.{Refusal}
use Rattle.plan.specs.declared.answers.Acceptance.{Acceptance}

pub record Numbers : Type 0 where
  pub kind : ℕ
  pub first : ℕ
  pub second : ℕ
  pub third : ℕ

infix 8 ◌with◌and◌then◌
abbrev pub ◌with◌and◌then◌ : ℕ → ℕ → ℕ → ℕ → Numbers
k with a and b then c = record { kind = k; first = a; second = b; third = c }

infix 8 ◌with◌and◌
abbrev pub ◌with◌and◌ : ℕ → ℕ → ℕ → Numbers
k with a and b = k with a and b then 0

-- a refusal: its number and its place
abbrev pub refused_numbers : Refusal → Numbers
refused_numbers e = 0 with e.0 and e.1

unfoldable pub fault_numbers : Fault → Numbers
fault_numbers (Fault.Own k) = 6 with k and 0
fault_numbers (Fault.Aborted k) = 4 with k and 0
fault_numbers (Fault.Unfinal k) = 5 with k and 0

unfoldable pub clean_numbers : Result Cleanness Refusal → Numbers
clean_numbers (Err e) = refused_numbers e
clean_numbers (Ok Cleanness.Yes) = 7 with 0 and 0
clean_numbers (Ok (Cleanness.Unclean f)) = fault_numbers f

-- a wrong read: its step, the writer that it should have found, and the step of that one's commit, 0 for the reader itself
unfoldable pub read_numbers : ℕ → Writer → Numbers
read_numbers k Writer.Store = 8 with k and 0
read_numbers k (Writer.Committed t s) = 8 with k and t then s
read_numbers k (Writer.Reader t) = 8 with k and t

unfoldable pub snapshot_numbers : Result Snapshot Refusal → Numbers
snapshot_numbers (Err e) = refused_numbers e
snapshot_numbers (Ok Snapshot.Yes) = 7 with 0 and 0
snapshot_numbers (Ok (Snapshot.Read k w)) = read_numbers k w
snapshot_numbers (Ok (Snapshot.Write k t)) = 9 with k and t

unfoldable pub witness_numbers : Result Answer Refusal → Numbers
witness_numbers (Err e) = refused_numbers e
witness_numbers (Ok (Answer.Order n)) = 1 with n and 0
witness_numbers (Ok (Answer.Cycle n)) = 2 with n and 0
witness_numbers (Ok Answer.None) = 3 with 0 and 0
witness_numbers (Ok (Answer.Unclean f)) = fault_numbers f

-- a call that answers how many: steps that were read, bytes that were put, or members of a proposal
unfoldable pub count_numbers : Result ℕ Refusal → Numbers
count_numbers (Err e) = refused_numbers e
count_numbers (Ok n) = 10 with n and 0

unfoldable pub live_numbers : Result (Unit {0}) Refusal → Numbers
live_numbers (Err e) = refused_numbers e
live_numbers (Ok _) = 10 with 0 and 0

unfoldable pub accepts_numbers : Result Acceptance Refusal → Numbers
accepts_numbers (Err e) = refused_numbers e
accepts_numbers (Ok Acceptance.Yes) = 7 with 0 and 0
accepts_numbers (Ok Acceptance.No) = 11 with 0 and 0

unfoldable pub packed : Numbers → ℕ
packed n = n.kind + 65536 * (n.first + 65536 * (n.second + 65536 * n.third))

-- r is the number of an answer that the call allows
pub data Packs {A : Type 0} (call : A → Type 0) (numbers : A → Numbers) (r : ℕ) : Type 0 where
  packs : (a : A) → call a → r ≡ packed (numbers a) → Packs call numbers r
