-- `put_verdicts` meets its contract: the first lines, and then one for each verdict with a witness.
use native.Mathlib.Omega.{arith}
use mathlib.Core.Path.{◌≡◌}
use mathlib.Core.List.{List, ◌++◌}
use Prim.Native.Nat.{ℕ, ◌+◌, ◌*◌, ◌≤◌}
use lib.ListN.{length}
use Rattle.verdict.specs.Limits.{transactions}
use Rattle.verdict.specs.Refusal.{log_refusal}
use Rattle.verdict.specs.Judgement.{Holds}
use Rattle.verdict.specs.Conflict.{Conflict}
use Rattle.verdict.specs.Version.{Version}
use Rattle.verdict.specs.Answers.{Passed}
use Rattle.verdict.specs.declared.answers.Witnessed.{Witnessed}
use Rattle.text.specs.Bytes.{bytes, line_end}
use Rattle.text.specs.Line.{item}
use Rattle.text.specs.Report.{first_lines, judged, ConflictLine, VersionLine, conflict_line, version_line}
use Rattle.text.specs.Inner.Put.{Fits, Puts, PutsLine, most_long}
use Rattle.text.specs.Inner.Told.{told, told_entries}
use Rattle.text.proofs.Puts.{four_put}
use Rattle.text.proofs.Tells.{line_fits, line_puts}
use Rattle.text.proofs.Room.{first_fit, log_report_fits, conflict_fits, version_fits}
use Rattle.text.proofs.reports.put_verdicts.Goals as goal

-- the lines of the two verdicts: each has room, and is put
module _ {log : List ℕ} {found : Witnessed} (passed : log_refusal log ≡ Passed) (l : List ℕ) (place : ℕ) where
  module _ (h : Holds (Conflict transactions log) found) where
    conflict_room : place + most_long ≤ length l
        → (3 * told_entries found.answer ≤ length found.list) × Fits (item (bytes "conflict=") (told found.answer found.list) line_end) place l
    conflict_room =
        line_fits h most_long (ConflictLine log) (bytes "conflict=") (conflict_line h.right) (conflict_fits log passed (conflict_line h.right)) l place

    conflict_put : {next : ℕ} {l' : List ℕ} → Puts (item (bytes "conflict=") (told found.answer found.list) line_end) place l next l'
        → PutsLine most_long (ConflictLine log) place l next l'
    conflict_put =
        line_puts h most_long (ConflictLine log) (bytes "conflict=") (conflict_line h.right) (conflict_fits log passed (conflict_line h.right)) l place

  module _ (h : Holds (Version transactions log) found) where
    version_room : place + most_long ≤ length l
        → (3 * told_entries found.answer ≤ length found.list) × Fits (item (bytes "version=") (told found.answer found.list) line_end) place l
    version_room =
        line_fits h most_long (VersionLine log) (bytes "version=") (version_line h.right) (version_fits log passed (version_line h.right)) l place

    version_put : {next : ℕ} {l' : List ℕ} → Puts (item (bytes "version=") (told found.answer found.list) line_end) place l next l'
        → PutsLine most_long (VersionLine log) place l next l'
    version_put =
        line_puts h most_long (VersionLine log) (bytes "version=") (version_line h.right) (version_fits log passed (version_line h.right)) l place

pub put_first-a-requires : goal.put_first-a-requires
put_first-a-requires c = (c.requires.0, c.requires.1.clean_is, c.requires.1.snapshot_is, c.requires.2)

pub put_answer-b-requires : goal.put_answer-b-requires
unfolding bytes
put_answer-b-requires c =
    conflict_room c.requires.0 _ _ c.requires.1.conflict_is
    (omega (arith, c.put_first-a.ensures.0, c.put_first-a.auto.out, first_fit c.args.log.now c.requires.0, c.requires.2))

pub put_answer-c-requires : goal.put_answer-c-requires
unfolding bytes
put_answer-c-requires c =
    let p = conflict_put c.requires.0 _ _ c.requires.1.conflict_is c.put_answer-b.ensures in
    version_room c.requires.0 _ _ c.requires.1.version_is
    (omega (arith, p.2, p.3.0, c.put_answer-b.auto.out, c.put_first-a.ensures.0, c.put_first-a.auto.out, first_fit c.args.log.now c.requires.0, c.requires.2))

pub put_exact-requires : goal.put_exact-requires
unfolding bytes
put_exact-requires c =
    let p = conflict_put c.requires.0 _ _ c.requires.1.conflict_is c.put_answer-b.ensures in
    let q = version_put c.requires.0 _ _ c.requires.1.version_is c.put_answer-c.ensures in (
      c.requires.0,
      c.requires.1.exact_is,
      omega (arith, q.2, q.3.0, c.put_answer-c.auto.out, p.2, p.3.0, c.put_answer-b.auto.out, c.put_first-a.ensures.0, c.put_first-a.auto.out, first_fit c.args.log.now c.requires.0, c.requires.2),
    )

pub returns : goal.returns
unfolding bytes
returns c =
    let p = conflict_put c.requires.0 _ _ c.requires.1.conflict_is c.put_answer-b.ensures in
    let q = version_put c.requires.0 _ _ c.requires.1.version_is c.put_answer-c.ensures in
    let report = judged c.requires.0 p.1 q.1 c.put_exact.ensures.1 in
    let short = log_report_fits report in (
      first_lines c.args.log.now ++ p.0 ++ q.0 ++ c.put_exact.ensures.0,
      report,
      short,
      four_put (first_lines c.args.log.now) p.0 q.0 c.put_exact.ensures.0 c.args.out.now 0 (omega (arith, short, c.requires.2))
          c.put_first-a.ensures p.3 q.3 c.put_exact.ensures.3,
    )
