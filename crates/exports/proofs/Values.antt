-- The numbers of every answer that a call allows have 16 bits each, so that no packing wraps and nothing of them is lost.
use mathlib.Core.Path.{◌≡◌, refl, sym, ap, subst, ◌∙◌}
use mathlib.Core.List.{List}
use Prim.Native.Nat.{ℕ, suc, ◌≤◌, ◌<◌}
use native.Mathlib.Omega.{arith}
use lib.ListN.{length}
use Rattle.verdict.specs.Limits.{transactions, most_steps}
use Rattle.verdict.specs.Refusal.{log_refusal}
use Rattle.verdict.specs.Snapshot.{snapshot_verdict}
use Rattle.verdict.specs.Outcome.{Outcome, order, cycle, none, unclean, said}
use Rattle.verdict.specs.Call.{Call, turned_away, answered, CleanCall, SnapshotCall, WitnessCall, ConflictCall, VersionCall, ExactCall, NextCall}
use Rattle.std.specs.Prelude.{Result, Ok}
use Rattle.verdict.specs.Answers.{Checked, Passed, Refused}
use Rattle.verdict.specs.declared.answers.Refusal.{Refusal}
use Rattle.verdict.specs.declared.answers.Answer.{Answer}
use Rattle.verdict.specs.declared.answers.Fault.{Fault}
use Rattle.verdict.specs.declared.answers.Fault.TheVariants.{Own, Aborted, Unfinal}
use Rattle.verdict.specs.declared.answers.Cleanness.{Cleanness}
use Rattle.verdict.specs.declared.answers.Cleanness.TheVariants as cleanness_is
use Rattle.verdict.specs.declared.answers.Writer.{Writer}
use Rattle.verdict.specs.declared.answers.Writer.TheVariants.{Store, Committed, Reader}
use Rattle.verdict.specs.declared.answers.Snapshot.{Snapshot}
use Rattle.verdict.specs.declared.answers.Snapshot.TheVariants as snapshot_is
use Rattle.verdict.proofs.WellFormed.{else_try→}
use Rattle.verdict.proofs.Bounds.{Within, within_else, log_within, work_within, witness_within, order_within, search_within, list_within, FaultUpto, own_upto, aborted_upto, unfinal_upto, WriterUpto, store_fine, committed_upto, reader_upto, SnapshotUpto, snapshot_fine, read_upto, write_upto, OutcomeUpto, order_upto, cycle_upto, none_fine, unclean_upto, fault_few, snapshot_few, conflict_few, version_few, exact_few, next_few}
use Rattle.text.specs.ReadCall.{ReadCall}
use Rattle.text.specs.ReportCall.{ReportCall}
use Rattle.text.specs.Text.{text_of}
use Rattle.text.specs.WriteCall.{WriteCall}
use Rattle.text.proofs.Room.{read_within, report_within, says_few, report_fits}
use Rattle.text.proofs.Saying.{longest_text}
use Rattle.text.proofs.WriteCalls.{write_passed, write_within}
use Rattle.live.specs.LiveCall as live_call
use Rattle.live.specs.LiveCall.{Buffers, LiveCall}
use Rattle.live.proofs.Calling.{call_within}
use Rattle.plan.specs.AcceptsCall.{AcceptsCall}
use Rattle.plan.specs.RedoCall.{RedoCall}
use Rattle.plan.specs.declared.answers.Acceptance.{Acceptance}
use Rattle.plan.specs.declared.answers.Acceptance.TheVariants.{Yes, No}
use Rattle.plan.proofs.Few.{length_within, proposal_within, redo_few}
use Rattle.exports.specs.Packed.{Numbers, ◌with◌and◌, ◌with◌and◌then◌, fault_numbers, clean_numbers, read_numbers, snapshot_numbers, witness_numbers, count_numbers, live_numbers, accepts_numbers, packed}
use Rattle.exports.specs.Inner.Small.{Small}

-- 16 bits each
pub record Short (n : Numbers) : Type 0 where
  pub kind_short : n.kind < 65536
  pub first_short : n.first < 65536
  pub second_short : n.second < 65536
  pub third_short : n.third < 65536

-- they fit
pub fits : {n : Numbers} → Short n → Small (packed n)
unfolding packed
fits {n} h = omega (arith, h.kind_short, h.first_short, h.second_short, h.third_short)

-- an answer that is known
pub known_small : {A : Type 0} (numbers : A → Numbers) {a b : A} → a ≡ b → Small (packed (numbers a)) → Small (packed (numbers b))
known_small {A} numbers e h = subst (λ (z : A). Small (packed (numbers z))) e h

pub known_packed : {A : Type 0} (numbers : A → Numbers) {a b : A} {r : ℕ} → a ≡ b → r ≡ packed (numbers b) → r ≡ packed (numbers a)
known_packed {A} numbers e h = h ∙ sym (ap (λ (z : A). packed (numbers z)) e)

-- numbers that are written out
short_three : {k a b c : ℕ} → k < 12 → a < 65536 → b < 65536 → c < 65536 → Short (k with a and b then c)
short_three h i j l = record { kind_short = omega arith; first_short = omega arith; second_short = omega arith; third_short = omega arith }

short : {k a b : ℕ} → k < 12 → a < 65536 → b < 65536 → Short (k with a and b)
short h i j = short_three h i j (omega arith)

refused_short : {n p : ℕ} → (n < 10000) × (p < 10000) → Short (0 with n and p)
refused_short h = short (omega arith) (omega (arith, h.0)) (omega (arith, h.1))

-- what a call answers is short, if what it may say is
call_short : {A R : Type 0} {applies : Checked → Type 0} {verdict : A → Type 0} {says : A → R} {leaves : A → List (List ℕ)} {lent : List (List ℕ)}
    (numbers : Result R Refusal → Numbers) → ((n p : ℕ) → applies (Refused n p) → Short (numbers (Refused n p))) → ((a : A) → applies Passed → verdict a → Short (numbers (Ok (says a))))
    → {r : Result R Refusal} {left : List (List ℕ)} → Call applies verdict says leaves lent r left → Short (numbers r)
call_short numbers f g (turned_away n p e x y) = rw x (f n p e)
call_short numbers f g (answered a e v x y) = rw x (g a e v)

-- THE VERDICTS
fault_short : (f : Fault) → FaultUpto most_steps f → Short (fault_numbers f)
unfolding fault_numbers
fault_short (Own k) (own_upto h) = short (omega arith) (omega arith) (omega arith)
fault_short (Aborted k) (aborted_upto h) = short (omega arith) (omega arith) (omega arith)
fault_short (Unfinal k) (unfinal_upto h) = short (omega arith) (omega arith) (omega arith)

cleanness_short : (c : Cleanness) → ((f : Fault) → c ≡ cleanness_is.Unclean f → FaultUpto most_steps f) → Short (clean_numbers (Ok c))
unfolding clean_numbers
cleanness_short cleanness_is.Yes few = short (omega arith) (omega arith) (omega arith)
cleanness_short (cleanness_is.Unclean f) few = fault_short f (few f refl)

wrong_read_short : (k : ℕ) (w : Writer) → k ≤ most_steps → WriterUpto most_steps (suc transactions) w → Short (read_numbers k w)
unfolding read_numbers
wrong_read_short k Store h store_fine = short (omega arith) (omega arith) (omega arith)
wrong_read_short k (Committed t s) h (committed_upto o i p j) = short_three (omega arith) (omega arith) (omega arith) (omega arith)
wrong_read_short k (Reader t) h (reader_upto o i) = short (omega arith) (omega arith) (omega arith)

snapshot_says : (s : Snapshot) → SnapshotUpto most_steps (suc transactions) s → Short (snapshot_numbers (Ok s))
unfolding snapshot_numbers
snapshot_says snapshot_is.Yes snapshot_fine = short (omega arith) (omega arith) (omega arith)
snapshot_says (snapshot_is.Read k w) (read_upto h i) = wrong_read_short k w h i
snapshot_says (snapshot_is.Write k t) (write_upto h i) = short (omega arith) (omega arith) (omega arith)

outcome_short : (a : Outcome) → OutcomeUpto most_steps transactions a → Short (witness_numbers (Ok (said a)))
unfolding witness_numbers said
outcome_short (order w) (order_upto h) = short (omega arith) (omega (arith, h.few)) (omega arith)
outcome_short (cycle c) (cycle_upto h r) = short (omega arith) (omega (arith, h)) (omega arith)
outcome_short none none_fine = short (omega arith) (omega arith) (omega arith)
outcome_short (unclean f) (unclean_upto h) = fault_short f h

module _ (log work : List ℕ) where
  pub clean_short : {r : Result Cleanness Refusal} {work' : List ℕ} → CleanCall log work r work' → Short (clean_numbers r)
  unfolding clean_numbers
  clean_short =
      call_short clean_numbers (λ n p e. refused_short (within_else _ _ (work_within work) (λ t. log_within log) n p (sym e)))
      (λ a e v. cleanness_short a (λ f x. fault_few log (else_try→ (sym e)).1 (sym v ∙ x)))

  pub snapshot_short : {r : Result Snapshot Refusal} {work' : List ℕ} → SnapshotCall log work r work' → Short (snapshot_numbers r)
  unfolding snapshot_numbers
  snapshot_short =
      call_short snapshot_numbers (λ n p e. refused_short (within_else _ _ (work_within work) (λ t. log_within log) n p (sym e)))
      (λ (a : Snapshot) e (v : a ≡ snapshot_verdict transactions log). snapshot_says a (rw v (snapshot_few log (else_try→ (sym e)).1)))

-- THE VERDICTS WITH A WITNESS
module _ (work witness : List ℕ) where
  witness_short : (refusal : Checked) {verdict : Outcome → Type 0} → Within refusal → ((a : Outcome) → refusal ≡ Passed → verdict a → OutcomeUpto most_steps transactions a)
      → {r : Result Answer Refusal} {work' witness' : List ℕ} → WitnessCall refusal verdict work witness r work' witness' → Short (witness_numbers r)
  unfolding witness_numbers
  witness_short refusal h few =
      call_short witness_numbers (λ n p e. refused_short (within_else _ _ (work_within work) (λ t. within_else _ _ (witness_within witness) (λ u. h)) n p (sym e)))
      (λ a e v. outcome_short a (few a (else_try→ (else_try→ (sym e)).1).1 v))

  module _ (log : List ℕ) {r : Result Answer Refusal} {work' witness' : List ℕ} where
    pub conflict_short : ConflictCall log work witness r work' witness' → Short (witness_numbers r)
    conflict_short = witness_short (log_refusal log) (log_within log) (λ a well v. conflict_few log well v)

    pub version_short : VersionCall log work witness r work' witness' → Short (witness_numbers r)
    version_short = witness_short (log_refusal log) (log_within log) (λ a well v. version_few log well v)

    pub exact_short : ExactCall log work witness r work' witness' → Short (witness_numbers r)
    exact_short = witness_short _ (within_else _ _ (log_within log) (λ well. search_within log well)) (λ a e v. exact_few log (else_try→ e).0 v)

    pub next_short : (handed_in : List ℕ) → NextCall log handed_in work witness r work' witness' → Short (witness_numbers r)
    next_short handed_in =
        witness_short _ (within_else _ _ (order_within handed_in) (λ t. within_else _ _ (log_within log) (λ u. list_within transactions log handed_in)))
        (λ a e v. next_few log (else_try→ (else_try→ e).1).0 v)

-- THE TEXT
pub read_short : {text steps : List ℕ} {r : Result ℕ Refusal} {steps' : List ℕ} → ReadCall text steps r steps' → Short (count_numbers r)
unfolding count_numbers
read_short =
    call_short count_numbers (λ n p e. refused_short (read_within e)) (λ log e s. short (omega arith) (omega (arith, says_few s)) (omega arith))

pub report_short : (out : List ℕ) {text : List ℕ} {r : Result ℕ Refusal} {out' : List ℕ} → ReportCall text out r out' → Short (count_numbers r)
unfolding count_numbers
report_short out =
    call_short count_numbers (λ n p e. refused_short (report_within out n p (sym e))) (λ w e s. short (omega arith) (omega (arith, report_fits s)) (omega arith))

pub write_short : (log out : List ℕ) {r : Result ℕ Refusal} {out' : List ℕ} → WriteCall log out r out' → Short (count_numbers r)
unfolding count_numbers
write_short log out =
    call_short count_numbers (λ n p e. refused_short (write_within log out n p (sym e)))
    (λ w e (v : w ≡ text_of log). short (omega arith) (omega (arith, ap length v, longest_text log (write_passed log out (sym e)))) (omega arith))

pub live_short : {b left : Buffers} {part answers answers' : List ℕ} {r : Result (Unit {0}) Refusal} → LiveCall b part answers r left answers' → Short (live_numbers r)
unfolding live_numbers
live_short {b} {part = part} {answers} (live_call.turned_away n p e x y z) = rw x (refused_short (call_within b part answers n p (sym e)))
live_short (live_call.answered e x j) = rw x (short (omega arith) (omega arith) (omega arith))

-- THE JUDGE OF A PROPOSAL, AND THE PLANNER
acceptance_short : (a : Acceptance) → Short (accepts_numbers (Ok a))
unfolding accepts_numbers
acceptance_short Yes = short (omega arith) (omega arith) (omega arith)
acceptance_short No = short (omega arith) (omega arith) (omega arith)

pub accepts_short : (log proposal work : List ℕ) {r : Result Acceptance Refusal} {work' : List ℕ} → AcceptsCall log proposal work r work' → Short (accepts_numbers r)
unfolding accepts_numbers
accepts_short log proposal work =
    call_short accepts_numbers
    (λ n p e. refused_short (within_else _ _ (work_within work) (λ t. within_else _ _ (length_within proposal) (λ u. within_else _ _ (log_within log) (λ v. proposal_within log proposal))) n p (sym e)))
    (λ a e v. acceptance_short a)

pub redo_short : (log work proposal : List ℕ) {r : Result ℕ Refusal} {work' proposal' : List ℕ} → RedoCall log work proposal r work' proposal' → Short (count_numbers r)
unfolding count_numbers
redo_short log work proposal =
    call_short count_numbers
    (λ n p e. refused_short (within_else _ _ (work_within work) (λ t. within_else _ _ (length_within proposal) (λ u. log_within log)) n p (sym e)))
    (λ w e v. short (omega arith) (omega (arith, redo_few log (else_try→ (else_try→ (sym e)).1).1 v)) (omega arith))
