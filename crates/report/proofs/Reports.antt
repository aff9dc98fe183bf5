-- A report that was made is within its buffer.
use native.Mathlib.Omega.{arith}
use mathlib.Core.Path.{◌≡◌}
use mathlib.Core.List.{List}
use Rattle.std.specs.Prelude.{Result, Ok}
use Prim.Native.Nat.{ℕ, ◌≤◌}
use lib.ListN.{length}
use Rattle.text.specs.ReportCall.{report_bytes, ReportCall}
use Rattle.verdict.specs.declared.answers.Refusal.{Refusal}
use Rattle.text.proofs.ReportCalls.{reported_length}

pub report_within_buffer : {text out out' : List ℕ} {r : Result ℕ Refusal} {n : ℕ} → r ≡ Ok n → length out' ≡ report_bytes
    → ReportCall text out r out' → n ≤ length out'
report_within_buffer {text} {out} e size c = omega (arith, reported_length text out (rw e at c), size)
