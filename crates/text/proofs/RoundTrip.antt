-- Both ways round, over whatever results the contracts of `read` and `write` allow.
use Rattle.std.specs.Prelude.{Result, Ok}
use mathlib.Core.Path.{◌≡◌, sym, ap, ◌∙◌}
use mathlib.Core.List.{List}
use Prim.Native.Nat.{ℕ, ◌-◌, ◌*◌, ◌≤◌}
use native.Mathlib.Omega.{arith}
use lib.ListN.{length, take}
use lib.Seq.{take_at}
use Rattle.words.specs.Lists.{zeros, entries}
use Rattle.verdict.specs.Log.{steps}
use Rattle.verdict.specs.Refusal.{log_refusal}
use Rattle.verdict.specs.Call.{turned_away, answered}
use Rattle.verdict.specs.Answers.{Passed}
use Rattle.verdict.specs.declared.answers.Refusal.{Refusal}
use Rattle.verdict.proofs.Only.{buffer_one}
use Rattle.verdict.proofs.WellFormed.{whole_steps, steps_within}
use Rattle.text.specs.Text.{text_of}
use Rattle.text.specs.ReadCall.{step_entries, ReadCall}
use Rattle.text.specs.WriteCall.{text_bytes, leaves_text, WriteCall}
use Rattle.text.proofs.Only.{read_back}
use Rattle.text.proofs.WasRead.{was_read}
use Rattle.text.proofs.Saying.{well_said, longest_text, text_fits}
use Rattle.text.proofs.WriteCalls.{write_passed, as_text, write_call_one}

-- what is known after a call of `write` that was accepted: the log is well_formed, and its text stands first in the buffer
pub record Wrote (log out' : List ℕ) (n : ℕ) : Type 0 where
  pub well : log_refusal log ≡ Passed
  pub size : n ≡ length (text_of log)
  pub holds : take n out' ≡ text_of log

pub was_written : (log : List ℕ) {out out' : List ℕ} {n : ℕ} → WriteCall log out (Ok n) out' → Wrote log out' n
unfolding leaves_text entries
was_written log (turned_away m q g e f) = let z : ◌≡◌ {A = ℕ} 0 1 = cc in absurd (omega arith)
was_written log {n} (answered w g h e f) =
    let i : n ≡ length w = cc in
    record {
      well = write_passed log _ (sym g);
      size = i ∙ ap length h;
      holds = ap (take n) (buffer_one f) ∙ take_at w (zeros (text_bytes - length w)) n (sym i) ∙ h;
    }

-- the text is within its buffer
pub text_within_buffer : (log : List ℕ) {out out' : List ℕ} {r : Result ℕ Refusal} {n : ℕ} → r ≡ Ok n → length out' ≡ text_bytes → WriteCall log out r out' → n ≤ length out'
text_within_buffer log e size c = let v = was_written log (rw e at c) in omega (arith, v.size, text_fits log v.well)

-- reading what was written gives the same steps
pub read_what_was_written : (log : List ℕ) {out out' buffer buffer' : List ℕ} {n : ℕ} {r : Result ℕ Refusal} → WriteCall log out (Ok n) out' → length buffer ≡ step_entries
    → ReadCall (take n out') buffer r buffer' → (r ≡ Ok (steps log)) × (buffer' ≡ entries step_entries log)
read_what_was_written log w size c =
    let v = was_written log w in
    read_back (well_said log v.well) (steps_within log v.well) (omega (arith, longest_text log v.well)) size (rw v.holds at c)

-- writing what was read from a text of well_formed steps gives the same bytes
pub write_what_was_read : {text buffer buffer' out out' : List ℕ} {n : ℕ} {r : Result ℕ Refusal} → ReadCall text buffer (Ok n) buffer'
    → log_refusal (take (4 * n) buffer') ≡ Passed → length out ≡ text_bytes → WriteCall (take (4 * n) buffer') out r out'
    → (r ≡ Ok (length text)) × (out' ≡ entries text_bytes text)
write_what_was_read {buffer'} {out} {n} c well size w =
    let v = was_read c in
    write_call_one (take (4 * n) buffer') w (as_text (take (4 * n) buffer') out size well (v.says.whole ∙ ap text_of (sym v.holds)))

-- no other text is read as the same steps
pub one_text : (log : List ℕ) {out out' text buffer : List ℕ} {n : ℕ} → WriteCall log out (Ok n) out'
    → ReadCall text buffer (Ok (steps log)) (entries step_entries log) → text ≡ take n out'
unfolding entries
one_text log w c =
    let v = was_written log w in
    let u = was_read c in
    u.says.whole
    ∙ ap text_of (sym u.holds ∙ take_at log (zeros (step_entries - length log)) (4 * steps log) (whole_steps log v.well))
    ∙ sym v.holds
