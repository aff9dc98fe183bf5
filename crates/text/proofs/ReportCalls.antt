-- What the parts of `report` answer and leave, put together to its statement.
use Rattle.std.specs.Prelude.{Ok}
use mathlib.Core.Path.{◌≡◌, refl, sym, ap, ◌∙◌}
use mathlib.Core.List.{List, [], ◌∷◌, ◌++◌}
use Prim.Native.Nat.{ℕ, ◌-◌, ◌≤◌}
use native.Mathlib.Omega.{arith}
use lib.ListN.{length, take}
use Rattle.words.specs.Lists.{zeros}
use Rattle.words.proofs.Truth.{→is, →isnt, →fails, →not_fails}
use Rattle.verdict.specs.Call.{turned_away, answered}
use Rattle.verdict.proofs.Refused.{when_yes, when_no}
use Rattle.verdict.specs.Answers.{Refused}
use Rattle.text.specs.Inner.Put.{Puts}
use Rattle.text.specs.Report.{ReportOf}
use Rattle.text.specs.ReportCall.{report_bytes, report_refusal, leaves_report, ReportCall}
use Rattle.text.proofs.Readies.{puts_lead}
use Rattle.text.proofs.Clears.{cleared_behind}
use Rattle.text.proofs.Room.{report_fits}

module _ (text out : List ℕ) where
  pub wrong_size : (length out ≡ report_bytes → ⊥) → ReportCall text out (Refused 12 0) out
  unfolding report_refusal
  wrong_size h = turned_away 12 0 (sym (when_yes 12 0 (→fails (→isnt h)))) refl refl

  pub reported : (w out₁ out' : List ℕ) (next : ℕ) → length out ≡ report_bytes → ReportOf text w → Puts w 0 out next out₁ → length out₁ ≡ length out
      → out' ≡ take next out₁ ++ zeros (length out₁ - next) → ReportCall text out (Ok next) out'
  unfolding report_refusal leaves_report
  reported w out₁ out' next size r p e f =
      answered w (sym (when_no 12 0 (→not_fails (→is size)))) r (ap Ok (omega (arith, p.0)))
      (ap (λ (u : List ℕ). u ∷ []) (cleared_behind report_bytes next w out out₁ out' (e ∙ size) (puts_lead w out 0 (omega (arith, report_fits r)) p) f))

  -- the length that is answered is within the buffer for a report
  pub reported_length : {n : ℕ} {out' : List ℕ} → ReportCall text out (Ok n) out' → n ≤ report_bytes
  reported_length (turned_away m q g e f) = let z : ◌≡◌ {A = ℕ} 0 1 = cc in absurd (omega arith)
  reported_length {n} (answered w g r e f) = let i : n ≡ length w = cc in omega (arith, report_fits r)
