-- The judge and the planner over the contracts of `accepts` and `redo`, whatever results these allow: each has one result; the judge says yes to what the
-- planner writes; for a log already fine that is the empty proposal; and inside a proposal that will do there is no smaller one that will.
use Rattle.std.specs.Prelude.{Result, Ok}
use mathlib.Core.Path.{◌≡◌, refl, sym, ap, subst, fun_ext, ◌∙◌}
use mathlib.Core.Bool.{Bool, true, false}
use mathlib.Core.List.{List, [], ◌∷◌}
use Prim.Native.Nat.{ℕ, suc, ◌≤◌}
use native.Mathlib.Omega.{arith}
use lib.ListN.{length}
use Rattle.words.specs.Tests.{◌is◌}
use Rattle.words.specs.Lists.{member, all, distinct, zeros, entries}
use Rattle.verdict.specs.Limits.{transactions, work_bytes}
use Rattle.verdict.specs.Log.{committed}
use Rattle.verdict.specs.Next.{up_to_zero, from_zero}
use Rattle.verdict.specs.Refusal.{log_refusal}
use Rattle.verdict.specs.Call.{turned_away, answered}
use Rattle.verdict.specs.Answers.{Passed}
use Rattle.words.proofs.Truth.{not_both, to_false, same_test, and→, →and, →is, not_fails→, →not_fails}
use Rattle.words.proofs.Places.{member_head, all→, →all}
use Rattle.verdict.proofs.WellFormed.{well_formed, else_try→, when→, refused≢passed}
use Rattle.verdict.proofs.Versions.{committed_range, not_zero}
use Rattle.verdict.proofs.Refused.{when_no}
use Rattle.verdict.proofs.Frame.{work_passed, both_passed}
use Rattle.verdict.proofs.Held.{NoZero, front_held, back_held, all_zero}
use Rattle.verdict.proofs.Only.{call_one, buffer_one, buffers_one}
use Rattle.plan.specs.Fine.{Fine}
use Rattle.plan.specs.WillDo.{WillDo}
use Rattle.plan.specs.Proposal.{proposal_entries, proposes, length_refusal, proposal_refusal}
use Rattle.plan.specs.AcceptsCall.{Accepts, accepts_yes, accepts_no, AcceptsCall}
use Rattle.plan.specs.Redo.{rising, GivesBack, Redo, redo}
use Rattle.plan.specs.RedoCall.{leaves_proposal, RedoCall}
use Rattle.plan.specs.declared.answers.Acceptance.{Acceptance}
use Rattle.plan.specs.declared.answers.Acceptance.TheVariants.{Yes}
use Rattle.verdict.specs.declared.answers.Refusal.{Refusal}
use Rattle.plan.specs.Inner.Trials.{Within}
use Rattle.plan.proofs.AllBack.{all_back_fine, none_back}
use Rattle.plan.proofs.Choice.{gives_one, gives_within, gives_right}
use Rattle.plan.proofs.Inside.{none_inside}
use Rattle.plan.proofs.Rising.{rising_member, member_rising, rising_distinct, rising_few, entries_size}

-- ONE RESULT
accepts_one : {log proposal : List ℕ} (a b : Acceptance) → Accepts log proposal a → Accepts log proposal b → a ≡ b
accepts_one a b (accepts_yes w) (accepts_yes v) = refl
accepts_one a b (accepts_yes w) (accepts_no n) = absurd (n w)
accepts_one a b (accepts_no n) (accepts_yes w) = absurd (n w)
accepts_one a b (accepts_no n) (accepts_no m) = refl

redo_one : {most : ℕ} {log : List ℕ} (v w : List ℕ) → Redo most log v → Redo most log w → v ≡ w
redo_one {most} {log} v w (redo x) (redo y) = ap (rising (suc most)) (gives_one most log x y)

pub accepts_call_one : (log proposal : List ℕ) {work : List ℕ} {r s : Result Acceptance Refusal} {v w : List ℕ} → AcceptsCall log proposal work r v → AcceptsCall log proposal work s w → (r ≡ s) × (v ≡ w)
accepts_call_one log proposal p q = let e = call_one (λ f g h k. h ∙ sym k) accepts_one p q in (e.0, buffer_one e.1)

pub redo_call_one : (log : List ℕ) {work proposal : List ℕ} {r s : Result ℕ Refusal} {v w x y : List ℕ} → RedoCall log work proposal r v x → RedoCall log work proposal s w y → (r ≡ s) × (v ≡ w) × (x ≡ y)
redo_call_one log p q = let e = call_one (λ f g h k. h ∙ sym k) redo_one p q in let f = buffers_one e.1 in (e.0, f.0, f.1)

-- WHAT THE PLANNER WRITES
pub record Written (log proposal' : List ℕ) (n : ℕ) : Type 0 where
  pub well : log_refusal log ≡ Passed
  pub rest : ℕ → Bool
  pub ends : GivesBack transactions log (committed log) rest
  pub counted : n ≡ length (rising (suc transactions) rest)
  pub laid : proposal' ≡ entries proposal_entries (rising (suc transactions) rest)

written : {log work proposal work' proposal' : List ℕ} {n : ℕ} → RedoCall log work proposal (Ok n) work' proposal' → Written log proposal' n
unfolding leaves_proposal
written (turned_away m p g e k) = let z : ◌≡◌ {A = ℕ} 0 1 = cc in absurd (omega arith)
written {log} {proposal'} {n} (answered w g (redo {rest} x) e k) =
    record { well = (else_try→ (else_try→ (sym g)).1).1; rest = rest; ends = x; counted = cc; laid = (buffers_one k).1 }

module _ (log : List ℕ) {proposal' : List ℕ} {n : ℕ} (w : Written log proposal' n) where
  members : List ℕ
  members = rising (suc transactions) w.rest

  those : (t : ℕ) → w.rest t ≡ true → committed log t ≡ true
  those = gives_within transactions log w.ends

  will_do : WillDo transactions log w.rest
  will_do = gives_right transactions log (all_back_fine log w.well) w.ends

  nobody : w.rest 0 ≡ false
  nobody = to_false _ (λ k. not_zero log (well_formed log w.well) 0 (those 0 k) refl)

  few : length members ≤ proposal_entries
  unfolding members
  few = rising_few w.rest nobody

  each : (t : ℕ) → member t members ≡ w.rest t
  unfolding members
  each t =
      same_test (λ m. (rising_member w.rest (suc transactions) t m).1)
      (λ k. member_rising w.rest (suc transactions) t (omega (arith, (committed_range log (well_formed log w.well) t (those t k)).1)) k)

  no_zero : NoZero members
  no_zero t m e = not_both (sym (each t) ∙ m) (rw e nobody)

  -- the judge reads it back
  front : up_to_zero proposal' ≡ members
  unfolding entries members
  front = ap up_to_zero w.laid ∙ front_held (rising (suc transactions) w.rest) _ no_zero

  pub proposes_rest : proposes proposal' ≡ w.rest
  unfolding proposes
  proposes_rest = fun_ext (λ t. ap (member t) front ∙ each t)

  size : length_refusal proposal' ≡ Passed
  unfolding length_refusal members
  size = when_no 12 0 (→not_fails (→is (ap length w.laid ∙ entries_size proposal_entries (rising (suc transactions) w.rest) few)))

  in_form : proposal_refusal log proposal' ≡ Passed
  unfolding proposal_refusal members entries
  in_form =
      when_no 19 0 (→not_fails (→and (→and (ap distinct front ∙ rising_distinct w.rest (suc transactions))
      (ap (all (committed log)) front ∙ →all _ (rising (suc transactions) w.rest) (λ t m. those t (sym (each t) ∙ m))))
      (ap (λ (l : List ℕ). all (λ t. t is 0) (from_zero l)) w.laid ∙ ap (all (λ t. t is 0)) (back_held (rising (suc transactions) w.rest) _ no_zero) ∙ all_zero _)))

-- The judge says yes to what the planner writes.
pub redo_accepted : (log : List ℕ) {work proposal work' proposal' : List ℕ} {n : ℕ} → RedoCall log work proposal (Ok n) work' proposal'
    → {area area' : List ℕ} {r : Result Acceptance Refusal} → length area ≡ work_bytes → AcceptsCall log proposal' area r area' → r ≡ Ok Yes
redo_accepted log {proposal'} {n} c {area} {area'} {r} l a = go a
  where
    w : Written log proposal' n
    w = written c

    go : AcceptsCall log proposal' area r area' → r ≡ Ok Yes
    go (turned_away m p g e k) = absurd (refused≢passed (g ∙ both_passed (work_passed area l) (both_passed (size log w) (both_passed w.well (in_form log w)))))
    go (answered o g (accepts_yes v) e k) = e
    go (answered o g (accepts_no x) e k) = absurd (x (subst (WillDo transactions log) (sym (proposes_rest log w)) (will_do log w)))

-- For a log already fine the planner writes the empty proposal.
pub redo_empty : (log : List ℕ) {work proposal work' proposal' : List ℕ} {n : ℕ} → Fine transactions log → RedoCall log work proposal (Ok n) work' proposal'
    → (n ≡ 0) × (proposal' ≡ zeros proposal_entries)
unfolding entries
redo_empty log {proposal'} {n} f c =
    let w = written c in
    let none : ℕ → Bool = λ t. false in
    let gone : Within w.rest none = none_inside log w.well none w.rest (λ u k. absurd (not_both k refl)) (those log w) (subst (Fine transactions) (sym (none_back log w.well)) f) (will_do log w) in
    let e : rising (suc transactions) w.rest ≡ [] = empty (rising (suc transactions) w.rest) (λ t m. not_both (gone t (rising_member w.rest (suc transactions) t m).1) refl) in
    (w.counted ∙ ap length e, w.laid ∙ ap (entries proposal_entries) e)
  where
    empty : (l : List ℕ) → ((t : ℕ) → member t l ≡ true → ⊥) → l ≡ []
    empty [] g = refl
    empty (t ∷ l) g = absurd (g t (member_head t l))

-- a member of a proposal that is not turned away committed
named_committed : (log l : List ℕ) → proposal_refusal log l ≡ Passed → (t : ℕ) → proposes l t ≡ true → committed log t ≡ true
unfolding proposal_refusal proposes
named_committed log l f t m = all→ _ (up_to_zero l) (and→ (and→ (not_fails→ (when→ 19 0 _ f))).0).1 t m

-- Inside a proposal that will do there is no smaller one that will.
pub accepted_least : (log : List ℕ) {p q area area' room room' : List ℕ} → AcceptsCall log p area (Ok Yes) area' → AcceptsCall log q room (Ok Yes) room'
    → ((t : ℕ) → proposes p t ≡ true → proposes q t ≡ true) → (t : ℕ) → proposes q t ≡ true → proposes p t ≡ true
accepted_least log {p} {q} a b within =
    let x = accepted a in
    let y = accepted b in
    none_inside log x.0 (proposes p) (proposes q) within (named_committed log q y.1) x.2.fine y.2
  where
    accepted : {l v v' : List ℕ} → AcceptsCall log l v (Ok Yes) v' → (log_refusal log ≡ Passed) × (proposal_refusal log l ≡ Passed) × WillDo transactions log (proposes l)
    accepted (turned_away m k g e z) = let y : ◌≡◌ {A = ℕ} 0 1 = cc in absurd (omega arith)
    accepted (answered o g (accepts_no n) e z) = let y : ◌≡◌ {A = ℕ} 0 1 = cc in absurd (omega arith)
    accepted (answered o g (accepts_yes v) e z) = let s = else_try→ (else_try→ (else_try→ (sym g)).1).1 in (s.0, s.1, v)
