-- An order as it is handed to "next" and read back, and what a call with a witness answered.
use Rattle.std.specs.Prelude.{Ok}
use mathlib.Core.Path.{◌≡◌, refl, sym, ap, ◌∙◌}
use mathlib.Core.Bool.{true}
use mathlib.Core.List.{List, [], ◌∷◌, ◌++◌}
use Prim.Native.Nat.{ℕ, zero, suc, ◌+◌, ◌-◌, ◌*◌, ◌≤◌}
use native.Mathlib.Omega.{arith}
use lib.ListN.{length, length-append, length-replicate}
use Rattle.words.specs.Tests.{◌is◌}
use Rattle.words.specs.Lists.{member, all, zeros, entries}
use Rattle.graph.specs.Order.{once_each}
use Rattle.words.proofs.Truth.{and→, →and, →is, →not_fails}
use Rattle.words.proofs.Places.{member_head, member_tail, all→}
use Rattle.verdict.specs.Limits.{transactions, witness_buffer, order_entries}
use Rattle.verdict.specs.Log.{committed}
use Rattle.verdict.specs.Refusal.{log_refusal}
use Rattle.verdict.specs.Outcome.{Outcome, order, cycle, none, unclean, said, members}
use Rattle.verdict.specs.Reason.{Entry, without_reasons}
use Rattle.verdict.specs.Witness.{in_threes, read_off, handed}
use Rattle.verdict.specs.Witness as lent
use Rattle.verdict.specs.Replay.{serial, explains}
use Rattle.verdict.specs.Next.{up_to_zero, from_zero, list_refusal}
use Rattle.verdict.specs.Call.{turned_away, answered, leaves_witness, WitnessCall}
use Rattle.verdict.specs.Answers.{Checked, Passed}
use Rattle.verdict.specs.declared.answers.Fault.{Fault}
use Rattle.verdict.specs.declared.answers.Answer.{Answer}
use Rattle.verdict.specs.declared.answers.Answer.TheVariants.{Order, Cycle, None, Unclean}
use Rattle.verdict.proofs.WellFormed.{else_try→, well_formed}
use Rattle.verdict.proofs.Versions.{not_zero}
use Rattle.verdict.proofs.Computed.{explains_serial}
use Rattle.verdict.proofs.Refused.{when_no}
use Rattle.verdict.proofs.Only.{buffers_one}
use Rattle.verdict.proofs.Threes.{plain_length, threes_length, read_order}
use Rattle.verdict.proofs.Bounds.{once_few}
use Rattle.verdict.proofs.HandedIn.{stops, goes, starts, passes}

-- MEMBERS, NONE OF THEM 0, AND ZEROS BEHIND
abbrev pub NoZero : List ℕ → Type 0
NoZero w = (t : ℕ) → member t w ≡ true → t ≡ 0 → ⊥

pub front_held : (w : List ℕ) (k : ℕ) → NoZero w → up_to_zero (w ++ zeros k) ≡ w
unfolding zeros
front_held [] zero f = unfold up_to_zero in refl
front_held [] (suc k) f = stops 0 (zeros k) refl
front_held (t ∷ w) k f = goes t (w ++ zeros k) (f t (member_head t w)) ∙ ap (λ (l : List ℕ). t ∷ l) (front_held w k (λ u m. f u (member_tail u t w m)))

pub back_held : (w : List ℕ) (k : ℕ) → NoZero w → from_zero (w ++ zeros k) ≡ zeros k
unfolding zeros
back_held [] zero f = unfold from_zero in refl
back_held [] (suc k) f = starts 0 (zeros k) refl
back_held (t ∷ w) k f = passes t (w ++ zeros k) (f t (member_head t w)) ∙ back_held w k (λ u m. f u (member_tail u t w m))

pub all_zero : (k : ℕ) → all (λ t. t is 0) (zeros k) ≡ true
unfolding all zeros
all_zero zero = refl
all_zero (suc k) = →and (→is refl) (all_zero k)

-- AN EXPLAINING ORDER, HANDED IN
module _ (log : List ℕ) (well : log_refusal log ≡ Passed) (w : List ℕ) (h : explains transactions log w ≡ true) where
  once : once_each (suc transactions) (committed log) w ≡ true
  unfolding serial
  once = explains_serial transactions log w h

  pub no_zero : NoZero w
  unfolding once_each
  no_zero t m e = not_zero log (well_formed log well) t (and→ (all→ _ w (and→ (and→ once).0).1 t m)).1 e

  -- "next" reads it back
  pub read_back : up_to_zero (handed w) ≡ w
  unfolding handed entries
  read_back = front_held w (order_entries - length w) no_zero

  pub handed_length : length (handed w) ≡ order_entries
  unfolding handed entries zeros
  handed_length =
      let z = zeros (order_entries - length w) in
      let e : length (w ++ z) ≡ length w + length z = length-append w z in
      let f : length z ≡ order_entries - length w = length-replicate (order_entries - length w) 0 in
      omega (arith, (once_few log well w once).few)

  -- 14 does not turn it away
  pub handed_passed : list_refusal transactions log (handed w) ≡ Passed
  unfolding list_refusal handed entries
  handed_passed =
      let k : ℕ = order_entries - length w in
      when_no 14 0 (→not_fails (→and (rw (front_held w k no_zero) h) (rw (back_held w k no_zero) (all_zero k))))

-- WHAT A CALL WITH A WITNESS ANSWERED
-- an order: its members, which are read off the witness
pub record Ordered (refusal : Checked) (verdict : Outcome → Type 0) (n : ℕ) (witness' : List ℕ) : Type 0 where
  pub well : refusal ≡ Passed
  pub w : List ℕ
  pub right : verdict (order w)
  pub left : witness' ≡ lent.witness (order w)
  pub room : 3 * n ≤ length witness'
  pub taken_out : read_off n witness' ≡ w

-- the order of n members in its witness
pub taken_off : (w : List ℕ) {n : ℕ} → n ≡ length w → (read_off n (lent.witness (order w)) ≡ w) × (3 * n ≤ length (lent.witness (order w)))
unfolding lent.witness members entries
taken_off w {n} e =
    let v = in_threes (without_reasons w) in
    let z = zeros (witness_buffer - length v) in
    let l : length (v ++ z) ≡ length v + length z = length-append v z in
    (rw e (read_order w z), omega (arith, threes_length (without_reasons w), plain_length w))

-- which outcome is said
told_order : (a : Outcome) {n : ℕ} → Order n ≡ said a → (w : List ℕ) × (a ≡ order w) × (n ≡ length w)
unfolding said
told_order (order w) e = (w, refl, cc)
told_order (cycle c) e = let z : ◌≡◌ {A = ℕ} 0 1 = cc in absurd (omega arith)
told_order none e = let z : ◌≡◌ {A = ℕ} 0 1 = cc in absurd (omega arith)
told_order (unclean f) e = let z : ◌≡◌ {A = ℕ} 0 1 = cc in absurd (omega arith)

told_none : (a : Outcome) → None ≡ said a → a ≡ none
unfolding said
told_none (order w) e = let z : ◌≡◌ {A = ℕ} 0 1 = cc in absurd (omega arith)
told_none (cycle c) e = let z : ◌≡◌ {A = ℕ} 0 1 = cc in absurd (omega arith)
told_none none e = refl
told_none (unclean f) e = let z : ◌≡◌ {A = ℕ} 0 1 = cc in absurd (omega arith)

told_cycle : (a : Outcome) {n : ℕ} → Cycle n ≡ said a → (c : List Entry) × (a ≡ cycle c)
unfolding said
told_cycle (order w) e = let z : ◌≡◌ {A = ℕ} 0 1 = cc in absurd (omega arith)
told_cycle (cycle c) e = (c, refl)
told_cycle none e = let z : ◌≡◌ {A = ℕ} 0 1 = cc in absurd (omega arith)
told_cycle (unclean f) e = let z : ◌≡◌ {A = ℕ} 0 1 = cc in absurd (omega arith)

told_unclean : (a : Outcome) {f : Fault} → Unclean f ≡ said a → a ≡ unclean f
unfolding said
told_unclean (order w) e = let z : ◌≡◌ {A = ℕ} 0 1 = cc in absurd (omega arith)
told_unclean (cycle c) e = let z : ◌≡◌ {A = ℕ} 0 1 = cc in absurd (omega arith)
told_unclean none e = let z : ◌≡◌ {A = ℕ} 0 1 = cc in absurd (omega arith)
told_unclean (unclean g) e = cc

module _ (refusal : Checked) {verdict : Outcome → Type 0} {work witness work' witness' : List ℕ} where
  -- what was answered was not turned away
  pub call_judged : {a : Answer} → WitnessCall refusal verdict work witness (Ok a) work' witness'
      → (o : Outcome) × (refusal ≡ Passed) × verdict o × (a ≡ said o) × (witness' ≡ lent.witness o)
  unfolding leaves_witness
  call_judged (turned_away m p g e k) = let z : ◌≡◌ {A = ℕ} 0 1 = cc in absurd (omega arith)
  call_judged (answered o g v e k) = (o, (else_try→ (else_try→ (sym g)).1).1, v, cc, (buffers_one k).1)

  pub call_order : {n : ℕ} → WitnessCall refusal verdict work witness (Ok (Order n)) work' witness' → Ordered refusal verdict n witness'
  call_order {n} c =
      let j = call_judged c in
      let t = told_order j.0 j.3 in
      let l : witness' ≡ lent.witness (order t.0) = j.4 ∙ ap lent.witness t.1 in
      let o = taken_off t.0 t.2 in
      record { well = j.1; w = t.0; right = rw t.1 at j.2; left = l; room = rw l o.1; taken_out = ap (read_off n) l ∙ o.0 }

  pub call_none : WitnessCall refusal verdict work witness (Ok None) work' witness' → verdict none
  call_none c = let j = call_judged c in rw (told_none j.0 j.3) at j.2

  pub call_cycle : {n : ℕ} → WitnessCall refusal verdict work witness (Ok (Cycle n)) work' witness' → (refusal ≡ Passed) × ((c : List Entry) × verdict (cycle c))
  call_cycle c = let j = call_judged c in let t = told_cycle j.0 j.3 in (j.1, (t.0, rw t.1 at j.2))

  pub call_unclean : {f : Fault} → WitnessCall refusal verdict work witness (Ok (Unclean f)) work' witness' → (refusal ≡ Passed) × verdict (unclean f)
  call_unclean c = let j = call_judged c in (j.1, rw (told_unclean j.0 j.3) at j.2)
