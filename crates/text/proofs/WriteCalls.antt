-- What the parts of `write` answer and leave, put together to its statement; and that it has one result.
use Rattle.std.specs.Prelude.{Result, Ok}
use mathlib.Core.Path.{◌≡◌, refl, sym, ap, ◌∙◌}
use mathlib.Core.List.{List, [], ◌∷◌, ◌++◌}
use Prim.Native.Nat.{ℕ, ◌-◌}
use native.Mathlib.Omega.{arith}
use lib.ListN.{length, take}
use Rattle.words.specs.Lists.{zeros, entries}
use Rattle.words.proofs.Truth.{→is, →isnt, →fails, →not_fails}
use Rattle.verdict.specs.Refusal.{log_refusal}
use Rattle.verdict.specs.Call.{turned_away, answered}
use Rattle.verdict.specs.Answers.{Passed, Refused}
use Rattle.verdict.specs.declared.answers.Refusal.{Refusal}
use Rattle.verdict.proofs.Refused.{first_yes, first_no}
use Rattle.verdict.proofs.WellFormed.{else_try→}
use Rattle.verdict.proofs.Bounds.{Within, within_when, within_else, log_within}
use Rattle.verdict.proofs.Only.{buffer_one, call_one}
use Rattle.text.specs.Text.{text_of}
use Rattle.text.specs.WriteCall.{text_bytes, write_refusal, leaves_text, WriteCall}
use Rattle.text.specs.Inner.Put.{Leads}
use Rattle.text.proofs.Clears.{cleared_behind}

module _ (log out : List ℕ) where
  -- the numbers and places that a refusal may have
  pub write_within : Within (write_refusal log out)
  unfolding write_refusal
  write_within = within_else _ _ (within_when 12 0 _ (omega arith) (omega arith)) (λ t. log_within log)

  -- where none applies the log is well_formed
  pub write_passed : write_refusal log out ≡ Passed → log_refusal log ≡ Passed
  unfolding write_refusal
  write_passed e = (else_try→ e).1

  pub wrong_length : (length out ≡ text_bytes → ⊥) → WriteCall log out (Refused 12 0) out
  unfolding write_refusal
  wrong_length h = turned_away 12 0 (sym (first_yes 12 0 (log_refusal log) (→fails (→isnt h)))) refl refl

  module _ (size : length out ≡ text_bytes) where
    -- the log decides
    by_log : write_refusal log out ≡ log_refusal log
    unfolding write_refusal
    by_log = first_no 12 0 (log_refusal log) (→not_fails (→is size))

    pub log_turned : {number place : ℕ} → log_refusal log ≡ Refused number place → WriteCall log out (Refused number place) out
    log_turned {number} {place} e = turned_away number place (sym (by_log ∙ e)) refl refl

    -- these bytes are the text of a well_formed log
    pub as_text : {text : List ℕ} → log_refusal log ≡ Passed → text ≡ text_of log → WriteCall log out (Ok (length text)) (entries text_bytes text)
    unfolding leaves_text
    as_text {text} well e = answered text (sym (by_log ∙ well)) e refl refl

    pub written : {out₁ out' : List ℕ} {next : ℕ} → log_refusal log ≡ Passed → Leads (text_of log) 0 out next out₁
        → out' ≡ take next out₁ ++ zeros (length out₁ - next) → WriteCall log out (Ok next) out'
    unfolding leaves_text
    written {out₁} {out'} {next} well p f =
        answered (text_of log) (sym (by_log ∙ well)) refl (ap Ok (omega (arith, p.reaches)))
        (ap (λ (u : List ℕ). u ∷ []) (cleared_behind text_bytes next (text_of log) out out₁ out' (p.size ∙ size) p f))

-- any two results of one call of `write` are equal, the answer and every entry of the lent buffer
pub write_call_one : (log : List ℕ) {out : List ℕ} {r s : Result ℕ Refusal} {v w : List ℕ} → WriteCall log out r v → WriteCall log out s w → (r ≡ s) × (v ≡ w)
write_call_one log p q =
    let e = call_one (λ f g h k. h ∙ sym k) (λ a b h k. h ∙ sym k) p q in
    (e.0, buffer_one e.1)
