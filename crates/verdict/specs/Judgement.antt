-- What `judge` answers: all five verdicts of a well_formed log, with their members by value, or the refusal.
use Rattle.std.specs.Prelude.{◌≡◌, List, ℕ, Result, Ok}
use Rattle.words.specs.Lists.{zeros}
use Rattle.verdict.specs.Limits.{transactions, witness_buffer}
use Rattle.verdict.specs.Refusal.{log_refusal, search_refusal}
use Rattle.verdict.specs.Clean.{cleanness}
use Rattle.verdict.specs.Snapshot.{snapshot_verdict}
use Rattle.verdict.specs.Outcome.{Outcome, said}
use Rattle.verdict.specs.Witness.{witness}
use Rattle.verdict.specs.Conflict.{Conflict}
use Rattle.verdict.specs.Version.{Version}
use Rattle.verdict.specs.Exact.{Exact}
use Rattle.verdict.specs.Answers.{Refusal, Passed, Refused, Answer, Over, Searched, Witnessed, ExactWitnessed, Judgement}

-- an answer by value that the verdict allows: its list is the witness
pub record Holds (verdict : Outcome → Type 0) (a : Witnessed) : Type 0 where
  pub outcome : Outcome
  pub right : verdict outcome
  pub says : a.answer ≡ said outcome
  pub listed : a.list ≡ witness outcome

-- the exact verdict: over where number 13 applies, and else its answer
pub data ExactIs (log : List ℕ) (e : ExactWitnessed) : Type 0 where
  over : (n : ℕ) → search_refusal log ≡ Refused 13 n → e ≡ record { exactness = Over n; list = zeros witness_buffer } → ExactIs log e
  searched : (a : Answer) → search_refusal log ≡ Passed → e.exactness ≡ Searched a → Holds (Exact transactions log) (record { answer = a; list = e.list })
      → ExactIs log e

-- each verdict is the log's
pub record Judges (log : List ℕ) (j : Judgement) : Type 0 where
  pub clean_is : j.clean ≡ cleanness log
  pub snapshot_is : j.snapshot ≡ snapshot_verdict transactions log
  pub conflict_is : Holds (Conflict transactions log) j.conflict
  pub version_is : Holds (Version transactions log) j.version
  pub exact_is : ExactIs log j.exact

-- the refusal, or the five verdicts
pub data JudgeAnswer (log : List ℕ) (r : Result Judgement Refusal) : Type 0 where
  refused : (number place : ℕ) → log_refusal log ≡ Refused number place → r ≡ Refused number place → JudgeAnswer log r
  judged : (j : Judgement) → log_refusal log ≡ Passed → r ≡ Ok j → Judges log j → JudgeAnswer log r
