-- A text has one report, and `report` one result.
use Rattle.std.specs.Prelude.{Result}
use mathlib.Core.Path.{◌≡◌, refl, sym, ap, subst, ◌∙◌}
use mathlib.Core.List.{List}
use Prim.Native.Nat.{ℕ}
use native.Mathlib.Omega.{arith}
use Rattle.verdict.specs.Answers.{Checked, Refused}
use Rattle.verdict.specs.declared.answers.Refusal.{Refusal}
use Rattle.verdict.proofs.WellFormed.{refused≢passed}
use Rattle.verdict.proofs.Only.{conflict_one, version_one, exact_one, buffer_one, call_one}
use Rattle.verdict.proofs.Refused.{one_number, one_place}
use Rattle.text.specs.Bytes.{bytes}
use Rattle.text.specs.Reading.{in_form}
use Rattle.text.specs.ReportLine.{refused_line, outcome_line}
use Rattle.text.specs.Report.{ConflictLine, conflict_line, VersionLine, version_line, ExactLine, exact_over, exact_line, LogReport, log_refused, judged, ReportOf, text_too_long, text_refused, text_read}
use Rattle.text.specs.ReportCall.{ReportCall}
use Rattle.text.proofs.Only.{says_one, reading_one}

-- one refusal is printed in one way
same_refusal : {r : Checked} {n p m q : ℕ} → r ≡ Refused n p → r ≡ Refused m q → refused_line n p ≡ refused_line m q
same_refusal {n} {p} {m} {q} e f =
    let same = sym e ∙ f in
    ap (λ (z : ℕ). refused_line z p) (one_number same) ∙ ap (refused_line m) (one_place same)

module _ {log : List ℕ} where
  conflict_line_one : {v w : List ℕ} → ConflictLine log v → ConflictLine log w → v ≡ w
  conflict_line_one (conflict_line a) (conflict_line b) = ap (outcome_line (bytes "conflict=")) (conflict_one a b)

  version_line_one : {v w : List ℕ} → VersionLine log v → VersionLine log w → v ≡ w
  version_line_one (version_line a) (version_line b) = ap (outcome_line (bytes "version=")) (version_one a b)

  exact_line_one : {v w : List ℕ} → ExactLine log v → ExactLine log w → v ≡ w
  exact_line_one (exact_over n e) (exact_over m f) = refl
  exact_line_one (exact_over n e) (exact_line f b) = absurd (refused≢passed (sym e ∙ f))
  exact_line_one (exact_line f b) (exact_over n e) = absurd (refused≢passed (sym e ∙ f))
  exact_line_one (exact_line e a) (exact_line f b) = ap (outcome_line (bytes "exact=")) (exact_one a b)

  log_report_one : {v w : List ℕ} → LogReport log v → LogReport log w → v ≡ w
  log_report_one (log_refused n p e) (log_refused m q f) = same_refusal e f
  log_report_one (log_refused n p e) (judged f a b c) = absurd (refused≢passed (sym e ∙ f))
  log_report_one (judged f a b c) (log_refused n p e) = absurd (refused≢passed (sym e ∙ f))
  log_report_one (judged e a b c) (judged f a' b' c') = rw (conflict_line_one a a', version_line_one b b', exact_line_one c c') refl

-- a text has one report
pub report_one : {text v w : List ℕ} → ReportOf text v → ReportOf text w → v ≡ w
report_one (text_too_long h) (text_too_long k) = refl
report_one (text_too_long h) (text_refused n p k r) = absurd (omega arith)
report_one (text_too_long h) (text_read log k s r) = absurd (omega arith)
report_one (text_refused n p k r) (text_too_long h) = absurd (omega arith)
report_one (text_refused n p h r) (text_refused m q k s) = same_refusal refl (reading_one r s)
report_one (text_refused n p h r) (text_read log k s t) = absurd (refused≢passed (reading_one r (in_form log s)))
report_one (text_read log k s r) (text_too_long h) = absurd (omega arith)
report_one (text_read log k s t) (text_refused n p h r) = absurd (refused≢passed (reading_one r (in_form log s)))
report_one (text_read log h s t) (text_read log' {w} k u v) = log_report_one t (subst (λ (l : List ℕ). LogReport l w) (says_one u s) v)

-- any two results of one call of `report` are equal, the answer and every entry of the lent buffer
pub report_call_one : {text out : List ℕ} {r s : Result ℕ Refusal} {v w : List ℕ} → ReportCall text out r v → ReportCall text out s w → (r ≡ s) × (v ≡ w)
report_call_one p q =
    let e = call_one (λ f g h k. h ∙ sym k) (λ a b h k. report_one h k) p q in
    (e.0, buffer_one e.1)
