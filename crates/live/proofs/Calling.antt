-- A call: the number that turns it away, and what it leaves where none does.
use Rattle.std.specs.Prelude.{Ok}
use mathlib.Core.Path.{◌≡◌, refl, sym, subst, ◌∙◌}
use mathlib.Core.Bool.{Bool, true, false}
use mathlib.Core.Logic.{◌⊎◌, inl, inr}
use mathlib.Core.List.{List, [], ◌∷◌}
use Prim.Native.Nat.{ℕ, ◌*◌, ◌/◌, ◌%◌, ◌≤◌}
use native.Mathlib.Omega.{arith}
use lib.ListN.{length, get_or, set}
use Rattle.words.specs.Tests.{◌is◌, ◌upto◌, fails, provided◌then◌else◌}
use Rattle.words.proofs.Truth.{decide, not_fails→, →fails, →not_fails, is→, →is, →isnt, upto→, →upto, provided_true, provided_false}
use Rattle.verdict.specs.Answers.{Passed, Refused}
use Rattle.verdict.specs.Refusal.{◌at◌when◌}
use Rattle.verdict.proofs.Bounds.{Within, within_when, within_else}
use Rattle.verdict.proofs.Refused.{when_yes, when_no, first_yes, first_no}
use Rattle.verdict.proofs.WellFormed.{else_try→, when→}
use Rattle.live.specs.Says.{State, going, over}
use Rattle.live.specs.Kept.{places}
use Rattle.live.specs.LiveCall.{Buffers, buffers, call_refusal, LiveCall, answered}
use Rattle.live.specs.declared.step.Live.{Live}
use Rattle.live.specs.Inner.Table.{Table, Sized}
use Rattle.live.specs.Inner.Held.{Tidy, Holds, holds_steps, holds_answer}
use Rattle.live.specs.Inner.Took.{table}
use Rattle.live.specs.Inner.Parts.{TakesPart}

-- THE NUMBER
right : {m n : ℕ} → m ≡ n → fails (m is n) ≡ false
right e = →not_fails (→is e)

wrong : {m n : ℕ} → (m ≡ n → ⊥) → fails (m is n) ≡ true
wrong d = →fails (→isnt d)

module _ (b : Buffers) (part answers : List ℕ) where
  pub number_one : (length part % 4 ≡ 0 → ⊥) → call_refusal b part answers ≡ Refused 1 0
  unfolding call_refusal
  number_one d = first_yes 1 0 _ (wrong d)

  module _ (p : length part % 4 ≡ 0) where
    pub wrong_state : (length b.state ≡ 3 → ⊥) → call_refusal b part answers ≡ Refused 12 0
    unfolding call_refusal
    wrong_state d = first_no 1 0 _ (right p) ∙ first_yes 12 0 _ (wrong d)

    module _ (s : length b.state ≡ 3) where
      pub wrong_opened : (length b.opened ≡ 256 → ⊥) → call_refusal b part answers ≡ Refused 12 0
      unfolding call_refusal
      wrong_opened d = first_no 1 0 _ (right p) ∙ first_no 12 0 _ (right s) ∙ first_yes 12 0 _ (wrong d)

      module _ (o : length b.opened ≡ 256) where
        pub wrong_rows : (length b.rows ≡ 8643 → ⊥) → call_refusal b part answers ≡ Refused 12 0
        unfolding call_refusal
        wrong_rows d = first_no 1 0 _ (right p) ∙ first_no 12 0 _ (right s) ∙ first_no 12 0 _ (right o) ∙ first_yes 12 0 _ (wrong d)

        module _ (r : length b.rows ≡ 8643) where
          pub wrong_marks : (length b.marks ≡ 256 → ⊥) → call_refusal b part answers ≡ Refused 12 0
          unfolding call_refusal
          wrong_marks d = first_no 1 0 _ (right p) ∙ first_no 12 0 _ (right s) ∙ first_no 12 0 _ (right o) ∙ first_no 12 0 _ (right r) ∙ first_yes 12 0 _ (wrong d)

          module _ (m : length b.marks ≡ 256) where
            pub wrong_edges : (length b.edges ≡ 256 → ⊥) → call_refusal b part answers ≡ Refused 12 0
            unfolding call_refusal
            wrong_edges d = first_no 1 0 _ (right p) ∙ first_no 12 0 _ (right s) ∙ first_no 12 0 _ (right o) ∙ first_no 12 0 _ (right r) ∙ first_no 12 0 _ (right m) ∙ first_yes 12 0 _ (wrong d)

            module _ (g : length b.edges ≡ 256) where
              rest : call_refusal b part answers ≡ (12 at 0 when fails (length answers is length part / 4))
              unfolding call_refusal
              rest = first_no 1 0 _ (right p) ∙ first_no 12 0 _ (right s) ∙ first_no 12 0 _ (right o) ∙ first_no 12 0 _ (right r) ∙ first_no 12 0 _ (right m) ∙ first_no 12 0 _ (right g)

              pub wrong_answers : (length answers ≡ length part / 4 → ⊥) → call_refusal b part answers ≡ Refused 12 0
              wrong_answers d = rest ∙ when_yes 12 0 (wrong d)

              pub no_number : length answers ≡ length part / 4 → call_refusal b part answers ≡ Passed
              no_number a = rest ∙ when_no 12 0 (right a)

  -- the numbers are small
  pub call_within : Within (call_refusal b part answers)
  unfolding call_refusal
  call_within =
      within_else _ _ (within_when 1 0 _ (omega arith) (omega arith)) (λ _. within_else _ _ (twelve_small _) (λ _. within_else _ _ (twelve_small _) (λ _. within_else _ _ (twelve_small _)
      (λ _. within_else _ _ (twelve_small _) (λ _. within_else _ _ (twelve_small _) (λ _. (twelve_small _)))))))
    where
      twelve_small : (t : Bool) → Within (12 at 0 when t)
      twelve_small t = within_when 12 0 t (omega arith) (omega arith)

  -- what no number says of the lengths
  pub record Fitting : Type 0 where
    pub whole : length part ≡ 4 * length answers
    pub state : length b.state ≡ 3
    pub sized : Sized (table b.opened b.rows b.marks b.edges)

  pub fitting : call_refusal b part answers ≡ Passed → Fitting
  unfolding call_refusal
  fitting e =
      let r1 = else_try→ e in
      let r2 = else_try→ r1.1 in
      let r3 = else_try→ r2.1 in
      let r4 = else_try→ r3.1 in
      let r5 = else_try→ r4.1 in
      let r6 = else_try→ r5.1 in
      let p : length part % 4 ≡ 0 = is→ (not_fails→ (when→ 1 0 _ r1.0)) in
      let a : length answers ≡ length part / 4 = is→ (not_fails→ (when→ 12 0 _ r6.1)) in
      record {
        whole = omega arith;
        state = is→ (not_fails→ (when→ 12 0 _ r2.0));
        sized = record { opened = is→ (not_fails→ (when→ 12 0 _ r3.0)); rows = is→ (not_fails→ (when→ 12 0 _ r4.0)); marks = is→ (not_fails→ (when→ 12 0 _ r5.0)); edges = is→ (not_fails→ (when→ 12 0 _ r6.0)) };
      }

-- THE STATE as it is read and as it is put back
module _ {standing top count : ℕ} {b : Table} where
  count_there : (j : State) {used : ℕ} → used ≡ (provided count upto places then count else places) → Holds standing top count b j → Holds standing top used b j
  count_there (going log) e (holds_steps z h) = let q = e ∙ provided_true _ _ (→upto h.held.room) in holds_steps z (subst (λ (c : ℕ). Tidy log top c b) (sym q) h)
  count_there (over a) e (holds_answer f g) = holds_answer f g

pub used_few : {used : ℕ} (count : ℕ) → used ≡ (provided count upto places then count else places) → used ≤ places
used_few {used} count e = go (decide (count upto places))
  where
    go : ((count upto places) ≡ true) ⊎ ((count upto places) ≡ false) → used ≤ places
    go (inl q) = let z : used ≡ count = e ∙ provided_true _ _ q in omega (arith, upto→ q)
    go (inr q) = let z : used ≡ places = e ∙ provided_false _ _ q in omega arith

put_back : (state : List ℕ) (standing top count : ℕ) → length state ≡ 3
    → (get_or (set (set (set state 0 standing) 1 top) 2 count) 0 0 ≡ standing) × (get_or (set (set (set state 0 standing) 1 top) 2 count) 1 0 ≡ top) × (get_or (set (set (set state 0 standing) 1 top) 2 count) 2 0 ≡ count)
put_back (a ∷ b ∷ c ∷ []) standing top count e = (refl, refl, refl)
put_back [] standing top count e = absurd (omega arith)
put_back (a ∷ []) standing top count e = absurd (omega arith)
put_back (a ∷ b ∷ []) standing top count e = absurd (omega arith)
put_back (a ∷ b ∷ c ∷ d ∷ l) standing top count e = absurd (omega arith)

pub accepted : {state opened rows marks edges part answers opened' rows' marks' edges' answers' : List ℕ} {used : ℕ} {r : Live}
    → call_refusal (buffers state opened rows marks edges) part answers ≡ Passed → length state ≡ 3 → used ≡ (provided get_or state 2 0 upto places then get_or state 2 0 else places)
    → TakesPart (record { standing = get_or state 0 0; top = get_or state 1 0; count = used }) (table opened rows marks edges) part answers r (table opened' rows' marks' edges') answers'
    → LiveCall (buffers state opened rows marks edges) part answers (Ok tt) (buffers (set (set (set state 0 r.standing) 1 r.top) 2 r.count) opened' rows' marks' edges') answers'
accepted {state} {opened} {rows} {marks} {edges} {opened' = opened'} {rows'} {marks'} {edges'} {r = r} e size u t =
    answered (sym e) refl
    (record {
      answered = λ j h. t.answered j (count_there j u h);
      kept = λ j h. let p = put_back state r.standing r.top r.count size in rw (p.0, p.1, p.2) (t.holds j (count_there j u h));
    })
