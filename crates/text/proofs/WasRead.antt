-- What is known after a call of `read` with a step buffer of the right length: the refusal's report, or the log that was read.
use Rattle.std.specs.Prelude.{Result, Ok}
use mathlib.Core.Path.{◌≡◌, sym, ap, ◌∙◌}
use mathlib.Core.List.{List}
use Prim.Native.Nat.{ℕ, ◌-◌, ◌*◌, ◌≤◌}
use native.Mathlib.Omega.{arith}
use lib.ListN.{length, take}
use lib.Seq.{take_at}
use Rattle.words.specs.Lists.{zeros, entries}
use Rattle.verdict.specs.Limits.{most_steps}
use Rattle.verdict.specs.Log.{steps}
use Rattle.verdict.specs.Answers.{Passed, Refused}
use Rattle.verdict.specs.declared.answers.Refusal.{Refusal}
use Rattle.verdict.specs.Call.{turned_away, answered}
use Rattle.verdict.proofs.Only.{buffer_one}
use Rattle.verdict.proofs.Refused.{one_number, one_place}
use Rattle.text.specs.Reading.{Says}
use Rattle.text.specs.ReadCall.{most_bytes, step_entries, ReadRefusal, wrong_buffer, too_long, by_line, leaves_steps, ReadCall}
use Rattle.text.specs.ReportLine.{refused_line}
use Rattle.text.specs.Report.{ReportOf, text_too_long, text_refused}
use Rattle.text.proofs.Runs.{steps_length}
use Rattle.text.proofs.Only.{steps_count}

-- the log that was read
pub record Was (text buffer' : List ℕ) (n : ℕ) : Type 0 where
  pub log : List ℕ
  pub short : length text ≤ most_bytes
  pub says : Says text log
  pub few : n ≤ most_steps
  pub holds : take (4 * n) buffer' ≡ log

passed_short : {text buffer : List ℕ} → ReadRefusal text buffer Passed → length text ≤ most_bytes
passed_short (by_line h k r) = k

-- a refusal
module _ (text buffer : List ℕ) (size : length buffer ≡ step_entries) where
  by_refusal : {n p : ℕ} → ReadRefusal text buffer (Refused n p) → ReportOf text (refused_line n p)
  by_refusal (wrong_buffer h) = absurd (h size)
  by_refusal (too_long h k) = text_too_long k
  by_refusal (by_line h k r) = text_refused _ _ k r

  pub refused_report : {n p : ℕ} {buffer' : List ℕ} → ReadCall text buffer (Refused n p) buffer' → ReportOf text (refused_line n p)
  refused_report {n} {p} (turned_away m q g e f) =
      rw (one_number e, one_place e) (by_refusal g)
  refused_report (answered log g h e f) = let z : ◌≡◌ {A = ℕ} 0 1 = cc in absurd (omega arith)

-- the steps
pub was_read : {text buffer : List ℕ} {n : ℕ} {buffer' : List ℕ} → ReadCall text buffer (Ok n) buffer' → Was text buffer' n
unfolding leaves_steps entries
was_read (turned_away m q g e f) = let z : ◌≡◌ {A = ℕ} 0 1 = cc in absurd (omega arith)
was_read {n} (answered log g h e f) =
    let i : n ≡ steps log = cc in
    let j : n ≡ h.n = i ∙ steps_count h.each in
    let k : length log ≡ 4 * n = steps_length h.each ∙ ap (λ (m : ℕ). 4 * m) (sym j) in
    record {
      log = log;
      short = passed_short g;
      says = h;
      few = omega (arith, h.few);
      holds = ap (take (4 * n)) (buffer_one f) ∙ take_at log (zeros (step_entries - length log)) (4 * n) k;
    }

-- they are within their buffer
pub steps_within_buffer : {text buffer buffer' : List ℕ} {r : Result ℕ Refusal} {n : ℕ} → r ≡ Ok n → length buffer' ≡ step_entries
    → ReadCall text buffer r buffer' → (n ≤ most_steps) × (4 * n ≤ length buffer')
steps_within_buffer e size c = let w = was_read (rw e at c) in (w.few, omega (arith, w.few))
