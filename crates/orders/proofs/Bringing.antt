-- What a call answered that shows or brings an order: its members are within the witness, and an order that is brought leaves fewer to come.
use mathlib.Core.Path.{◌≡◌, ap, ◌∙◌}
use mathlib.Core.Bool.{true}
use mathlib.Core.List.{List}
use Rattle.std.specs.Prelude.{Result, Ok}
use Prim.Native.Nat.{ℕ, ◌*◌, ◌≤◌, ◌<◌}
use lib.ListN.{length}
use Rattle.words.specs.First.{later}
use Rattle.words.proofs.Truth.{and→}
use native.Mathlib.Omega.{arith}
use Rattle.verdict.specs.Limits.{transactions, witness_buffer, order_entries}
use Rattle.verdict.specs.Outcome.{Outcome, order}
use Rattle.verdict.specs.Witness.{read_off, handed}
use Rattle.verdict.specs.Replay.{explains}
use Rattle.verdict.specs.Next.{Next, next, up_to_zero}
use Rattle.verdict.specs.Call.{WitnessCall, NextCall}
use Rattle.verdict.specs.Answers.{Checked}
use Rattle.verdict.specs.declared.answers.Refusal.{Refusal}
use Rattle.verdict.specs.declared.answers.Answer.{Answer}
use Rattle.verdict.specs.declared.answers.Answer.TheVariants.{Order}
use Rattle.verdict.proofs.WellFormed.{else_try→}
use Rattle.verdict.proofs.Held.{call_order, read_back}
use Rattle.verdict.proofs.Listing.{order_turned, to_come, fewer_to_come}

-- an answer that is known
known : {answer : Result Answer Refusal} {judged : Answer} {n : ℕ} → answer ≡ Ok judged → judged ≡ Order n → answer ≡ Ok (Order n)
known e f = e ∙ ap Ok f

-- the entries of its members
pub members_within : (refusal : Checked) {verdict : Outcome → Type 0} {work witness work' witness' : List ℕ} {answer : Result Answer Refusal} {judged : Answer} {n : ℕ}
    → answer ≡ Ok judged → judged ≡ Order n → WitnessCall refusal verdict work witness answer work' witness' → 3 * n ≤ length witness'
members_within refusal e f c = (call_order refusal (rw (known e f) at c)).room

-- no more than an order may have
pub few_members : (n : ℕ) (witness : List ℕ) → 3 * n ≤ length witness → length witness ≡ witness_buffer → n ≤ order_entries
few_members n witness h e = omega (arith, h, e)

-- an order that "next" brings explains
explaining : {log v w : List ℕ} → Next transactions log v (order w) → explains transactions log w ≡ true
unfolding later
explaining (next f) = (and→ f.one).0

module _ (log handed_in : List ℕ) {work witness work' witness' : List ℕ} where
  -- as it is handed in again
  read_again : {n : ℕ} → NextCall log handed_in work witness (Ok (Order n)) work' witness' → up_to_zero (handed (read_off n witness')) ≡ read_off n witness'
  read_again c =
      let o = call_order (order_turned log handed_in) c in
      rw o.taken_out (read_back log (else_try→ (else_try→ o.well).1).0 o.w (explaining o.right))

  pub fewer_left : {answer : Result Answer Refusal} {judged : Answer} {n : ℕ} → answer ≡ Ok judged → judged ≡ Order n
      → NextCall log handed_in work witness answer work' witness' → {order : List ℕ} → order ≡ handed (read_off n witness') → to_come log (up_to_zero order) < to_come log (up_to_zero handed_in)
  fewer_left e f c g = let d = rw (known e f) at c in rw (g, read_again d) (fewer_to_come log handed_in d)
