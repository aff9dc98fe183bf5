-- The frame of a call: the lengths of the lent buffers, and what an answer leaves in them.
use Rattle.std.specs.Prelude.{Ok, Err}
use mathlib.Core.Path.{◌≡◌, refl, sym, ap, ◌∙◌}
use mathlib.Core.List.{List, [], ◌∷◌}
use Prim.Native.Nat.{ℕ}
use lib.ListN.{length}
use Rattle.words.specs.Lists.{zeros}
use Rattle.words.proofs.Truth.{not_fails→, →not_fails, is→, →is}
use Rattle.verdict.specs.Limits.{work_bytes, witness_buffer, order_entries}
use Rattle.verdict.specs.Refusal.{◌else_try◌, work_refusal, witness_refusal, order_refusal}
use Rattle.verdict.specs.Outcome.{Outcome}
use Rattle.verdict.specs.Judgement.{Holds}
use Rattle.verdict.specs.Witness.{witness}
use Rattle.verdict.specs.Call.{turned_away, answered, leaves_work, leaves_witness, WitnessCall}
use Rattle.verdict.specs.Inner.Leaving.{Leaves}
use Rattle.verdict.specs.Answers.{Answer, Witnessed, Checked, Passed, Refused}
use Rattle.verdict.proofs.WellFormed.{else_try→, when→}
use Rattle.verdict.proofs.Refused.{when_no, tried_passed}

-- what is not turned away has buffers of the right length
pub work_length : (work : List ℕ) → work_refusal work ≡ Passed → length work ≡ work_bytes
unfolding work_refusal
work_length work e = is→ (not_fails→ (when→ 12 0 _ e))

pub witness_length : (lent : List ℕ) → witness_refusal lent ≡ Passed → length lent ≡ witness_buffer
unfolding witness_refusal
witness_length lent e = is→ (not_fails→ (when→ 12 0 _ e))

-- buffers of the right length are not turned away
pub work_passed : (work : List ℕ) → length work ≡ work_bytes → work_refusal work ≡ Passed
unfolding work_refusal
work_passed work e = when_no 12 0 (→not_fails (→is e))

pub witness_passed : (lent : List ℕ) → length lent ≡ witness_buffer → witness_refusal lent ≡ Passed
unfolding witness_refusal
witness_passed lent e = when_no 12 0 (→not_fails (→is e))

pub order_passed : (order : List ℕ) → length order ≡ order_entries → order_refusal order ≡ Passed
unfolding order_refusal
order_passed order e = when_no 12 0 (→not_fails (→is e))

pub both_passed : {a b : Checked} → a ≡ Passed → b ≡ Passed → (a else_try b) ≡ Passed
both_passed {b} e f = tried_passed b e ∙ f

-- a cleared work area is all zeros
pub work_left : {A : Type 0} (a : A) (work work' : List ℕ) → work_refusal work ≡ Passed → work' ≡ zeros (length work) → work' ∷ [] ≡ leaves_work a
unfolding leaves_work
work_left a work work' e c = ap (λ (l : List ℕ). l ∷ []) (c ∙ ap zeros (work_length work e))

-- A CALL WITH A WITNESS
-- it is taken: both buffers have the right length, and nothing else turns it away
pub record Admitted (rest : Checked) (work lent : List ℕ) : Type 0 where
  pub passed : (work_refusal work else_try witness_refusal lent else_try rest) ≡ Passed
  pub work_size : length work ≡ work_bytes
  pub witness_size : length lent ≡ witness_buffer
  pub well : rest ≡ Passed

module _ (rest : Checked) (work lent : List ℕ) where
  pub admitted : (work_refusal work else_try witness_refusal lent else_try rest) ≡ Passed → Admitted rest work lent
  admitted t =
      let later = else_try→ (else_try→ t).1 in
      record { passed = t; work_size = work_length work (else_try→ t).0; witness_size = witness_length lent later.0; well = later.1 }

-- numbers that are tried one after another
pub else_assoc : (a b c : Checked) → ((a else_try b) else_try c) ≡ (a else_try (b else_try c))
unfolding ◌else_try◌
else_assoc (Ok _) b c = refl
else_assoc (Err _) b c = refl

refused_first : {a : Checked} (b : Checked) {n p : ℕ} → a ≡ Refused n p → (a else_try b) ≡ Refused n p
unfolding ◌else_try◌
refused_first b e = rw e refl

-- a call that tries one more number, behind those that are looked for first
module _ (first later : Checked) {whole : Checked} (split : whole ≡ (first else_try later)) {work lent : List ℕ} where
  pub refused_early : (verdict : Outcome → Type 0) {n p : ℕ} → (work_refusal work else_try witness_refusal lent else_try first) ≡ Refused n p
      → WitnessCall whole verdict work lent (Refused n p) work lent
  refused_early verdict e =
      turned_away _ _ (sym (refused_first later e) ∙ else_assoc (work_refusal work) _ later ∙ rw (else_assoc (witness_refusal lent) first later, split) refl) refl refl

  pub refused_later : (verdict : Outcome → Type 0) → Admitted first work lent → {n p : ℕ} → later ≡ Refused n p → WitnessCall whole verdict work lent (Refused n p) work lent
  refused_later verdict a e =
      turned_away _ _ (sym (tried_passed later a.passed ∙ e) ∙ else_assoc (work_refusal work) _ later ∙ rw (else_assoc (witness_refusal lent) first later, split) refl) refl refl

  pub admitted_later : Admitted first work lent → later ≡ Passed → Admitted whole work lent
  admitted_later a e =
      let w : whole ≡ Passed = split ∙ both_passed a.well e in
      record {
        passed = both_passed (work_passed work a.work_size) (both_passed (witness_passed lent a.witness_size) w);
        work_size = a.work_size;
        witness_size = a.witness_size;
        well = w;
      }

-- what is found is said, and its members are laid into the witness
pub call_left : {rest : Checked} {work lent : List ℕ} {verdict : Outcome → Type 0} {found : Witnessed} {a : Answer} {work' lent' : List ℕ}
    → Admitted rest work lent → Holds verdict found → Leaves work found a work' lent' → WitnessCall rest verdict work lent (Ok a) work' lent'
unfolding leaves_witness witness
call_left a h l =
    answered h.outcome (sym a.passed) h.right (ap Ok (l.says ∙ h.says)) (rw (l.cleared, a.work_size, l.laid, h.listed) refl)
