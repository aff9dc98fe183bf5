-- The log that 01 prints, its text and its report.
use mathlib.Core.Path.{◌≡◌, refl, subst}
use mathlib.Core.List.{List, [], ◌∷◌, ◌++◌}
use Prim.Native.Nat.{ℕ, ◌≤◌}
use native.Mathlib.Omega.{arith}
use lib.ListN.{length}
use Rattle.words.specs.Tests.{◌is◌, ◌below◌, ◌upto◌, ◌and◌, provided◌then◌else◌, count}
use Rattle.verdict.specs.Log.{steps, kind, tx, obj, src, committed_count}
use Rattle.verdict.specs.Refusal.{◌at◌when◌, search_refusal}
use Rattle.verdict.specs.Outcome.{Outcome, cycle, none}
use Rattle.verdict.specs.Answers.{Passed}
use Rattle.verdict.specs.declared.answers.Cleanness.TheVariants as cleanness_is
use Rattle.verdict.specs.declared.answers.Snapshot.TheVariants as snapshot_is
use Rattle.verdict.proofs.Samples.{Means, led, printed_means}
use Rattle.text.specs.Bytes.{bytes}
use Rattle.text.specs.Decimal.{digit, digits, decimal}
use Rattle.text.specs.Line.{word, item, header, op, line, sayable, has_word, sayable_step}
use Rattle.text.specs.Text.{lines, text_of, Steps, no_step, a_step}
use Rattle.text.specs.Reading.{Says}
use Rattle.text.specs.ReadCall.{most_bytes}
use Rattle.text.specs.ReportLine.{committed_line, clean_line, snapshot_line, reason, spelled, spelled_all, value, outcome_line}
use Rattle.text.specs.Report.{conflict_line, version_line, exact_line, first_lines, LogReport, judged, ReportOf, text_read}

-- the log
unfoldable pub printed : List ℕ
printed =
    1 ∷ 1 ∷ 0 ∷ 0 ∷ 1 ∷ 2 ∷ 0 ∷ 0 ∷ 2 ∷ 1 ∷ 1 ∷ 0 ∷ 2 ∷ 2 ∷ 0 ∷ 0
    ∷ 3 ∷ 1 ∷ 0 ∷ 0 ∷ 3 ∷ 2 ∷ 1 ∷ 0 ∷ 4 ∷ 1 ∷ 0 ∷ 0 ∷ 4 ∷ 2 ∷ 0 ∷ 0 ∷ []

-- its text
unfoldable pub printed_bytes : List ℕ
printed_bytes =
    bytes "steps=8\n"
    ++ bytes "op=begin tx=1 obj=0 from=0\n"
    ++ bytes "op=begin tx=2 obj=0 from=0\n"
    ++ bytes "op=read tx=1 obj=1 from=0\n"
    ++ bytes "op=read tx=2 obj=0 from=0\n"
    ++ bytes "op=write tx=1 obj=0 from=0\n"
    ++ bytes "op=write tx=2 obj=1 from=0\n"
    ++ bytes "op=commit tx=1 obj=0 from=0\n"
    ++ bytes "op=commit tx=2 obj=0 from=0\n"

pub printed_text : printed_bytes ≡ text_of printed
unfolding printed printed_bytes text_of lines header line op item word decimal digits digit bytes steps kind tx obj src ◌is◌ ◌below◌ provided◌then◌else◌
printed_text = refl

printed_steps : Steps 8 printed
unfolding printed sayable_step has_word sayable ◌and◌ ◌upto◌
printed_steps = a_step refl (a_step refl (a_step refl (a_step refl (a_step refl (a_step refl (a_step refl (a_step refl no_step)))))))

-- the text says the log
pub printed_says : Says printed_bytes printed
printed_says = record { n = 8; few = omega arith; each = printed_steps; whole = printed_text }

-- THE REPORT OF THE PRINTED LOG
-- what 01 says it gives
unfoldable pub printed_report : List ℕ
printed_report =
    bytes "steps=8\n"
    ++ bytes "committed=2\n"
    ++ bytes "clean=yes\n"
    ++ bytes "snapshot=yes\n"
    ++ bytes "conflict=cycle 1 rw:1 2 rw:0\n"
    ++ bytes "version=cycle 1 rw:1 2 rw:0\n"
    ++ bytes "exact=none\n"

-- the outcome of the two graph verdicts
both : Outcome
both = cycle (led 1 3 1 ∷ led 2 3 0 ∷ [])

-- what the log means: it stands in verdict's table of samples
means : Means printed cleanness_is.Yes snapshot_is.Yes both both none [] []
unfolding printed both
means = printed_means

-- the lines of that
printed_lines :
    header (steps printed) ++ committed_line (committed_count printed) ++ clean_line cleanness_is.Yes ++ snapshot_line snapshot_is.Yes
    ++ outcome_line (bytes "conflict=") both ++ outcome_line (bytes "version=") both ++ outcome_line (bytes "exact=") none
    ≡ printed_report
unfolding printed both printed_report header committed_line clean_line snapshot_line outcome_line value spelled_all spelled reason item decimal digits digit bytes
    steps committed_count count kind ◌is◌ ◌below◌ provided◌then◌else◌
printed_lines = refl

few_committed : search_refusal printed ≡ Passed
unfolding printed search_refusal committed_count count steps kind ◌at◌when◌ ◌is◌ ◌below◌ provided◌then◌else◌
few_committed = refl

short_text : length printed_bytes ≤ most_bytes
unfolding printed_bytes bytes
short_text = omega arith

-- the printed text gives exactly the printed report
pub printed_gives : ReportOf printed_bytes printed_report
unfolding first_lines
printed_gives =
    text_read printed {w = printed_report} short_text printed_says
    (subst (LogReport printed)
    (rw (means.clean_part, means.snapshot_part) printed_lines)
    (judged means.passed (conflict_line means.conflict_part) (version_line means.version_part) (exact_line few_committed means.exact_part)))

-- the largest number
pub largest_decimal : decimal 65535 ≡ bytes "65535"
unfolding decimal digits digit bytes ◌below◌ provided◌then◌else◌
largest_decimal = refl
