-- How long the lines of a report are: every report has room in its buffer. And how large the values of the calls are.
use mathlib.Core.Path.{◌≡◌, refl}
use mathlib.Core.Bool.{Bool, true, false}
use mathlib.Core.List.{List, [], ◌∷◌, ◌++◌}
use Prim.Native.Nat.{ℕ, suc, ◌+◌, ◌*◌, ◌≤◌, ◌<◌}
use native.Mathlib.Omega.{arith}
use lib.ListN.{length, length-append}
use Rattle.words.specs.Tests.{◌is◌, provided◌then◌else◌}
use Rattle.words.specs.Lists.{member}
use Rattle.words.proofs.Places.{member_head, member_tail}
use Rattle.verdict.specs.Limits.{transactions, objects, most_steps}
use Rattle.verdict.specs.Log.{steps, committed_count}
use Rattle.verdict.specs.Refusal.{log_refusal}
use Rattle.verdict.specs.Clean.{fault_step, cleanness}
use Rattle.verdict.specs.Snapshot.{snapshot_verdict}
use Rattle.verdict.specs.Reason.{Entry, without_reasons}
use Rattle.verdict.specs.Exact.{Exact, exact, exact_none, exact_unclean}
use Rattle.verdict.specs.Outcome.{Outcome, order, cycle, none, unclean}
use Rattle.verdict.specs.Answers.{Passed, Refused}
use Rattle.verdict.specs.declared.answers.Fault.{Fault}
use Rattle.verdict.specs.declared.answers.Fault.TheVariants.{Own, Aborted, Unfinal}
use Rattle.verdict.specs.declared.answers.Cleanness.{Cleanness}
use Rattle.verdict.specs.declared.answers.Cleanness.TheVariants as cleanness_is
use Rattle.verdict.specs.declared.answers.Writer.{Writer}
use Rattle.verdict.specs.declared.answers.Writer.TheVariants.{Store, Committed, Reader}
use Rattle.verdict.specs.declared.answers.Snapshot.{Snapshot}
use Rattle.verdict.specs.declared.answers.Snapshot.TheVariants as snapshot_is
use Rattle.verdict.proofs.Bounds.{Within, within_when, log_within, FaultUpto, own_upto, aborted_upto, unfinal_upto, WriterUpto, store_fine, committed_upto, reader_upto, SnapshotUpto, snapshot_fine, read_upto, write_upto, MembersUpto, EntriesUpto, no_entry, an_entry, OutcomeUpto, order_upto, cycle_upto, none_fine, unclean_upto, few_committed, fault_few, snapshot_few, conflict_few, version_few, exact_few}
use Rattle.verdict.proofs.WellFormed.{steps_within}
use Rattle.text.specs.Bytes.{bytes, blank, line_end}
use Rattle.text.specs.Decimal.{decimal}
use Rattle.text.specs.Line.{item, header}
use Rattle.text.specs.Reading.{Says, Reading, no_header, too_many, bad_line, extra}
use Rattle.text.specs.ReadCall.{ReadRefusal, wrong_buffer, too_long, by_line}
use Rattle.text.specs.ReportLine.{refused_line, committed_line, clean_line, wants, snapshot_line, reason, spelled, spelled_all, value, outcome_line, over_line}
use Rattle.text.specs.Report.{ConflictLine, conflict_line, VersionLine, version_line, ExactLine, exact_over, exact_line, first_lines, LogReport, log_refused, judged, ReportOf, text_too_long, text_refused, text_read}
use Rattle.text.specs.Inner.Put.{most_long, most_exact, most_short}
use Rattle.text.specs.ReportCall.{report_bytes, report_refusal}
use Rattle.text.proofs.Digits.{two_digits, three_digits, four_digits, item_length}
use Rattle.text.proofs.Only.{steps_count}

-- KEYS WITH THEIR VALUES
number_item : (key : List ℕ) (behind n : ℕ) → n < 10000 → length (item key (decimal n) behind) ≤ length key + 5
number_item key behind n h = omega (arith, item_length key (decimal n) behind, four_digits n h)

pub refused_length : (number place : ℕ) → number < 10000 → place < 10000 → length (refused_line number place) ≤ most_short
unfolding refused_line bytes
refused_length number place h k =
    omega (
      arith,
      length-append (item (bytes "refused=") (decimal number) blank) (item (bytes "at=") (decimal place) line_end),
      number_item (bytes "refused=") blank number h,
      number_item (bytes "at=") line_end place k,
    )

pub steps_length : (n : ℕ) → n < 10000 → length (header n) ≤ most_short
unfolding header bytes
steps_length n h = omega (arith, number_item (bytes "steps=") line_end n h)

pub committed_length : (n : ℕ) → n < 10000 → length (committed_line n) ≤ most_short
unfolding committed_line bytes
committed_length n h = omega (arith, number_item (bytes "committed=") line_end n h)

-- what a wrong read should have found
wants_length : (w : Writer) → WriterUpto most_steps (suc transactions) w → length (wants w) ≤ 21
unfolding wants bytes
wants_length Store store_fine = omega arith
wants_length (Committed t s) (committed_upto o h p i) =
    omega (
      arith,
      length-append (item (bytes "wants ") (decimal t) blank) (item (bytes "from ") (decimal s) line_end),
      number_item (bytes "wants ") blank t (omega arith),
      number_item (bytes "from ") line_end s (omega arith),
    )
wants_length (Reader t) (reader_upto o h) = omega (arith, number_item (bytes "wants ") line_end t (omega arith))

-- MEMBERS, A BLANK BEFORE EACH AND THE REASON BEHIND IT
reason_length : (k x : ℕ) → x < 100 → length (reason k x) ≤ 6
unfolding reason bytes provided◌then◌else◌
reason_length k x h = go (k is 1) (k is 2) (k is 3)
  where
    go : (b c d : Bool) → length (provided b then bytes " ww:" ++ decimal x else provided c then bytes " wr:" ++ decimal x else provided d then bytes " rw:" ++ decimal x else []) ≤ 6
    go true c d = omega (arith, two_digits x h)
    go false true d = omega (arith, two_digits x h)
    go false false true = omega (arith, two_digits x h)
    go false false false = omega arith

spelled_length : (e : Entry) → e.transaction < 1000 → length (spelled e) ≤ 4 + length (reason e.kind e.object)
unfolding spelled bytes
spelled_length e h =
    let r = reason e.kind e.object in
    omega (arith, length-append (bytes " " ++ decimal e.transaction) r, length-append (bytes " ") (decimal e.transaction), three_digits e.transaction h)

-- those of an order have none
none_behind : length (reason 0 0) ≡ 0
unfolding reason ◌is◌ provided◌then◌else◌
none_behind = refl

order_length : (w : List ℕ) → ((t : ℕ) → member t w ≡ true → t < 1000) → length (spelled_all (without_reasons w)) ≤ 4 * length w
unfolding spelled_all without_reasons
order_length [] f = omega arith
order_length (t ∷ w) f =
    let e : Entry = record { transaction = t; kind = 0; object = 0 } in
    let a : length (spelled e) ≤ 4 = omega (arith, spelled_length e (f t (member_head t w)), none_behind) in
    let b : length (spelled_all (without_reasons w)) ≤ 4 * length w = order_length w (λ u m. f u (member_tail u t w m)) in
    omega (arith, length-append (spelled e) (spelled_all (without_reasons w)))

cycle_length : (c : List Entry) → EntriesUpto transactions objects c → length (spelled_all c) ≤ 10 * length c
unfolding spelled_all
cycle_length [] no_entry = omega arith
cycle_length (e ∷ c) (an_entry h k r) =
    omega (arith, length-append (spelled e) (spelled_all c), spelled_length e (omega arith), reason_length e.kind e.object (omega arith), cycle_length c r)

-- THE LINE OF A VERDICT WITH A WITNESS
-- what stands behind the key
abbrev most_value : ℕ
most_value = 1285

outcome_length : {most : ℕ} (key : List ℕ) (a : Outcome) → length key + length (value a) < most → length (outcome_line key a) ≤ most
unfolding outcome_line
outcome_length key a h = omega (arith, item_length key (value a) line_end)

-- the step of a fault, in the lines that tell it
fault_length : (f : Fault) → FaultUpto most_steps f → length (clean_line (cleanness_is.Unclean f)) ≤ most_short
unfolding clean_line bytes
fault_length (Own k) (own_upto h) = omega (arith, number_item (bytes "clean=own at ") line_end k (omega arith))
fault_length (Aborted k) (aborted_upto h) = omega (arith, number_item (bytes "clean=aborted at ") line_end k (omega arith))
fault_length (Unfinal k) (unfinal_upto h) = omega (arith, number_item (bytes "clean=unfinal at ") line_end k (omega arith))

unclean_length : (f : Fault) → FaultUpto most_steps f → length (value (unclean f)) ≤ 15
unfolding value bytes fault_step
unclean_length (Own k) (own_upto h) = omega (arith, four_digits k (omega arith))
unclean_length (Aborted k) (aborted_upto h) = omega (arith, four_digits k (omega arith))
unclean_length (Unfinal k) (unfinal_upto h) = omega (arith, four_digits k (omega arith))

members_length : (w : List ℕ) → MembersUpto transactions w → length (spelled_all (without_reasons w)) ≤ 4 * transactions
members_length w h = omega (arith, order_length w (λ t m. omega (arith, h.each t m)), h.few)

value_length : (a : Outcome) → OutcomeUpto most_steps transactions a → length (value a) ≤ most_value
unfolding value bytes
value_length (order w) (order_upto h) = omega (arith, members_length w h)
value_length (cycle c) (cycle_upto few h) = omega (arith, cycle_length c h)
value_length none none_fine = omega arith
value_length (unclean f) (unclean_upto h) = omega (arith, unclean_length f h)

module _ (log : List ℕ) (well : log_refusal log ≡ Passed) where
  pub conflict_fits : {w : List ℕ} → ConflictLine log w → length w ≤ most_long
  unfolding bytes
  conflict_fits (conflict_line {a} h) = outcome_length (bytes "conflict=") a (omega (arith, value_length a (conflict_few log well h)))

  pub version_fits : {w : List ℕ} → VersionLine log w → length w ≤ most_long
  unfolding bytes
  version_fits (version_line {a} h) = outcome_length (bytes "version=") a (omega (arith, value_length a (version_few log well h)))

  -- the exact verdict shows no cycle
  exact_length : {a : Outcome} → Exact transactions log a → OutcomeUpto most_steps transactions a → length (value a) ≤ 517
  unfolding value bytes
  exact_length (exact {w} f) (order_upto h) = omega (arith, members_length w h)
  exact_length (exact_none c n) none_fine = omega arith
  exact_length (exact_unclean {f} e) (unclean_upto h) = omega (arith, unclean_length f h)

  pub exact_fits : {w : List ℕ} → ExactLine log w → length w ≤ most_exact
  unfolding over_line bytes
  exact_fits (exact_over n e) = omega arith
  exact_fits (exact_line {a} e h) = outcome_length (bytes "exact=") a (omega (arith, exact_length h (exact_few log well h)))

  -- THE LINES BEFORE THEM
  pub steps_fits : length (header (steps log)) ≤ most_short
  steps_fits = let h : steps log ≤ most_steps = steps_within log well in steps_length (steps log) (omega arith)

  pub committed_fits : length (committed_line (committed_count log)) ≤ most_short
  committed_fits = let h : committed_count log ≤ most_steps = few_committed log well in committed_length (committed_count log) (omega arith)

  pub clean_fits : length (clean_line (cleanness log)) ≤ most_short
  unfolding clean_line bytes
  clean_fits = go (cleanness log) (λ f e. fault_few log well {f = f} e)
    where
      go : (c : Cleanness) → ((f : Fault) → c ≡ cleanness_is.Unclean f → FaultUpto most_steps f) → length (clean_line c) ≤ most_short
      go cleanness_is.Yes h = omega arith
      go (cleanness_is.Unclean f) h = fault_length f (h f refl)

  pub snapshot_fits : length (snapshot_line (snapshot_verdict transactions log)) ≤ most_short
  unfolding snapshot_line bytes
  snapshot_fits = go (snapshot_verdict transactions log) (snapshot_few log well)
    where
      go : (s : Snapshot) → SnapshotUpto most_steps (suc transactions) s → length (snapshot_line s) ≤ most_short
      go snapshot_is.Yes snapshot_fine = omega arith
      go (snapshot_is.Read k w) (read_upto h i) =
          omega (
            arith,
            length-append (item (bytes "snapshot=read at ") (decimal k) blank) (wants w),
            number_item (bytes "snapshot=read at ") blank k (omega arith),
            wants_length w i,
          )
      go (snapshot_is.Write k t) (write_upto h i) =
          omega (
            arith,
            length-append (item (bytes "snapshot=write at ") (decimal k) blank) (item (bytes "with ") (decimal t) line_end),
            number_item (bytes "snapshot=write at ") blank k (omega arith),
            number_item (bytes "with ") line_end t (omega arith),
          )

  pub first_fit : length (first_lines log) ≤ 4 * most_short
  unfolding first_lines
  first_fit =
      let a = header (steps log) in
      let b = committed_line (committed_count log) in
      let c = clean_line (cleanness log) in
      let d = snapshot_line (snapshot_verdict transactions log) in
      omega (arith, length-append (a ++ b ++ c) d, length-append (a ++ b) c, length-append a b, steps_fits, committed_fits, clean_fits, snapshot_fits)

-- REFUSALS
-- the numbers and places that a text's refusal may have
pub reading_within : {text : List ℕ} {n p : ℕ} → Reading text (Refused n p) → (n < 10000) × (p < 10000)
reading_within (no_header h) = (omega arith, omega arith)
reading_within (too_many n rest s h e) = (omega arith, omega arith)
reading_within (bad_line n i log rest h k s e f) = (omega arith, omega arith)
reading_within (extra n b log rest h s e) = (omega arith, omega arith)

pub read_within : {text buffer : List ℕ} {n p : ℕ} → ReadRefusal text buffer (Refused n p) → (n < 10000) × (p < 10000)
read_within (wrong_buffer h) = (omega arith, omega arith)
read_within (too_long h k) = (omega arith, omega arith)
read_within (by_line h k r) = reading_within r

pub report_within : (out : List ℕ) → Within (report_refusal out)
unfolding report_refusal
report_within out = within_when 12 0 _ (omega arith) (omega arith)

-- the steps of a text
pub says_few : {text log : List ℕ} → Says text log → steps log ≤ most_steps
says_few s = omega (arith, s.few, steps_count s.each)

-- EVERY REPORT HAS ROOM
pub log_report_fits : {log w : List ℕ} → LogReport log w → length w ≤ report_bytes
log_report_fits {log} (log_refused n p e) = let r = log_within log n p e in omega (arith, refused_length n p r.0 r.1)
log_report_fits {log} (judged {conflict = c} {version = v} {exact = x} well a b d) =
    let f = first_lines log in
    omega (arith, length-append (f ++ c ++ v) x, length-append (f ++ c) v, length-append f c, first_fit log well, conflict_fits log well a, version_fits log well b, exact_fits log well d)

pub report_fits : {text w : List ℕ} → ReportOf text w → length w ≤ report_bytes
report_fits (text_too_long h) = omega (arith, refused_length 15 0 (omega arith) (omega arith))
report_fits (text_refused n p h r) = let s = reading_within r in omega (arith, refused_length n p s.0 s.1)
report_fits (text_read log h s r) = log_report_fits r
