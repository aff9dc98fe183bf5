-- The report of a text: a line for each verdict, or the refusal alone.
use Rattle.std.specs.Prelude.{◌≡◌, List, ◌++◌, ℕ, ◌≤◌, ◌<◌, length}
use Rattle.verdict.specs.Limits.{transactions}
use Rattle.verdict.specs.Log.{steps, committed_count}
use Rattle.verdict.specs.Refusal.{log_refusal, search_refusal}
use Rattle.verdict.specs.Clean.{cleanness}
use Rattle.verdict.specs.Snapshot.{snapshot_verdict}
use Rattle.verdict.specs.Outcome.{Outcome}
use Rattle.verdict.specs.Conflict.{Conflict}
use Rattle.verdict.specs.Version.{Version}
use Rattle.verdict.specs.Exact.{Exact}
use Rattle.verdict.specs.Answers.{Passed, Refused}
use Rattle.text.specs.Bytes.{bytes}
use Rattle.text.specs.Line.{header}
use Rattle.text.specs.Reading.{Says, Reading}
use Rattle.text.specs.ReadCall.{most_bytes}
use Rattle.text.specs.ReportLine.{refused_line, committed_line, clean_line, snapshot_line, outcome_line, over_line}

-- what is said of a well_formed log by the verdicts with a witness
pub data ConflictLine (log : List ℕ) : List ℕ → Type 0 where
  conflict_line : {a : Outcome} → Conflict transactions log a → ConflictLine log (outcome_line (bytes "conflict=") a)

pub data VersionLine (log : List ℕ) : List ℕ → Type 0 where
  version_line : {a : Outcome} → Version transactions log a → VersionLine log (outcome_line (bytes "version=") a)

pub data ExactLine (log : List ℕ) : List ℕ → Type 0 where
  exact_over : (n : ℕ) → search_refusal log ≡ Refused 13 n → ExactLine log over_line
  exact_line : {a : Outcome} → search_refusal log ≡ Passed → Exact transactions log a → ExactLine log (outcome_line (bytes "exact=") a)

-- the lines before them
unfoldable pub first_lines : List ℕ → List ℕ
first_lines log =
    header (steps log)
    ++ committed_line (committed_count log)
    ++ clean_line (cleanness log)
    ++ snapshot_line (snapshot_verdict transactions log)

-- the report of a log
pub data LogReport (log : List ℕ) : List ℕ → Type 0 where
  -- a number turns it away
  log_refused : (number place : ℕ) → log_refusal log ≡ Refused number place → LogReport log (refused_line number place)
  -- a well_formed log
  judged : {conflict version exact : List ℕ} → log_refusal log ≡ Passed → ConflictLine log conflict → VersionLine log version
      → ExactLine log exact
      → LogReport log (first_lines log ++ conflict ++ version ++ exact)

-- the report of a text
pub data ReportOf (text : List ℕ) : List ℕ → Type 0 where
  -- the text is too long
  text_too_long : most_bytes < length text → ReportOf text (refused_line 15 0)
  -- a line departs from the text form, or the header says too many steps
  text_refused : (number place : ℕ) → length text ≤ most_bytes → Reading text (Refused number place)
      → ReportOf text (refused_line number place)
  -- the text says a log
  text_read : (log : List ℕ) {w : List ℕ} → length text ≤ most_bytes → Says text log → LogReport log w → ReportOf text w
