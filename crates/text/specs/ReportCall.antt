-- What a call of `report` answers, and what it leaves in the lent buffer.
use Rattle.std.specs.Prelude.{◌≡◌, List, [], ◌∷◌, ℕ, length, Result}
use Rattle.words.specs.Tests.{◌is◌, fails}
use Rattle.words.specs.Lists.{entries}
use Rattle.verdict.specs.Refusal.{◌at◌when◌}
use Rattle.verdict.specs.Call.{Call}
use Rattle.verdict.specs.Answers.{Checked}
use Rattle.verdict.specs.declared.answers.Refusal.{Refusal}
use Rattle.text.specs.Report.{ReportOf}

-- the buffer for a report has 4,096 bytes, and every report fits
abbrev pub report_bytes : ℕ
report_bytes = 4096

-- 12: the lent buffer has a wrong length
unfoldable pub report_refusal : List ℕ → Checked
report_refusal out = 12 at 0 when fails (length out is report_bytes)

-- the length of the report is answered, and it stands first in its buffer, zeros behind it
unfoldable pub leaves_report : List ℕ → List (List ℕ)
leaves_report w = entries report_bytes w ∷ []

-- what `report` answers and leaves
abbrev pub ReportCall : (text out : List ℕ) → Result ℕ Refusal → (out' : List ℕ) → Type 0
ReportCall text out r out' = Call (λ f. f ≡ report_refusal out) (ReportOf text) length leaves_report (out ∷ []) r (out' ∷ [])
