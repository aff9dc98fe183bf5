-- From fresh buffers, by any calls on any parts, the answers to all steps together are those of the definition.
use Rattle.std.specs.Prelude.{Result, Ok}
use Rattle.verdict.specs.declared.answers.Refusal.{Refusal}
use mathlib.Core.Path.{◌≡◌, refl, sym, ap, ap₂, subst, ◌∙◌}
use mathlib.Core.Bool.{Bool, false}
use mathlib.Core.Logic.{⊎_elim}
use mathlib.Core.List.{List, [], ◌∷◌, ◌++◌, map, map-append}
use Prim.Native.Nat.{ℕ, zero, suc, ◌+◌, ◌-◌, ◌*◌, ◌%◌, ◌≤◌}
use native.Mathlib.Omega.{arith}
use lib.ListN.{length, get_or, replicate, length-replicate, length-append}
use Rattle.words.specs.Tests.{some}
use Rattle.words.specs.Lists.{zeros}
use Rattle.words.proofs.Truth.{to_false, not_both, and_no_left, or→, →not_upto, provided_false}
use Rattle.graph.specs.Matrix.{in_row}
use Rattle.graph.proofs.RowLaws.{no_rows}
use Rattle.verdict.proofs.WellFormed.{refused≢passed}
use Rattle.verdict.specs.Log.{steps, begun, committed}
use Rattle.live.specs.Answers.{Said, answer_number}
use Rattle.live.specs.SoFar.{numbers, is_open, passed}
use Rattle.live.specs.Breach.{breached}
use Rattle.live.specs.Says.{State, fresh, says, after, all_says, after_all}
use Rattle.live.specs.Kept.{places, full}
use Rattle.live.specs.Forgotten.{none_gone}
use Rattle.live.specs.LiveCall.{Buffers, Keeps, LiveCall, turned_away, answered}
use Rattle.live.specs.Live.{all_zero, Calls, no_call, one_accepted, one_refused, answers_to}
use Rattle.live.specs.Apart.{answers_apart, steps_apart, roomy_answers_to}
use Rattle.live.specs.Inner.Table.{cell, name_at, status_at, sees_at, open_at}
use Rattle.live.specs.Inner.Held.{Held, Tidy, holds_steps}
use Rattle.live.specs.Inner.Took.{table}
use Rattle.live.proofs.Grows.{writer_none}
use Rattle.live.proofs.Accepted.{nothing_accepted}
use Rattle.live.proofs.ChainGrows.{chain_ends}
use Rattle.live.proofs.Cycles.{closed_way}
use Rattle.live.proofs.Apart.{roomy}
use Rattle.live.proofs.Calling.{fitting}

-- FRESH BUFFERS hold the judge as it begins
no_entry : (n i : ℕ) → ◌≡◌ {A = ℕ} (get_or (replicate n 0) i 0) 0
no_entry zero i = refl
no_entry (suc n) zero = refl
no_entry (suc n) (suc i) = no_entry n i

-- lists of zeros, whatever their length
zeros_length : (n : ℕ) → length (zeros n) ≡ n
unfolding zeros
zeros_length n = length-replicate {A = ℕ} n 0

no_sees : (n x : ℕ) → sees_at (zeros n) 0 x ≡ 0
unfolding zeros sees_at cell
no_sees n x = no_entry n (0 * 67 + (2 + x))

no_edges : (n b a : ℕ) → in_row (zeros n) b a ≡ false
unfolding zeros
no_edges n b a = no_rows n b a

no_number : (n i : ℕ) → get_or (zeros n) i 0 ≡ 0
unfolding zeros
no_number n i = no_entry n i

none_committed : (t : ℕ) → committed [] t ≡ false
unfolding committed steps some
none_committed t = refl

none_open : (t : ℕ) → is_open [] t ≡ false
unfolding is_open begun steps some
none_open t = and_no_left _ refl

none_breached : breached numbers [] ≡ false
unfolding breached steps some
none_breached = refl

-- every place is free
no_name : (p : ℕ) → name_at (zeros 8643) p ≡ 0
unfolding name_at cell
no_name p = no_number 8643 (p * 67 + 0)

none_used : (p : ℕ) → 1 ≤ name_at (zeros 8643) p → ⊥
none_used p n = let z = no_name p in omega arith

nothing_held : Held [] 0 0 (table (zeros 256) (zeros 8643) (zeros 256) (zeros 256))
unfolding passed steps some status_at open_at cell
nothing_held =
    record {
      sized = record { opened = zeros_length 256; rows = zeros_length 8643; marks = zeros_length 256; edges = zeros_length 256 };
      accepted = nothing_accepted numbers;
      fine = none_breached;
      acyclic = to_false _ (λ h. let r = closed_way (nothing_accepted numbers) none_breached h in not_both (chain_ends [] r.end r.home r.back).0 (none_committed r.end));
      highest = λ t l. sym (→not_upto l);
      room = omega arith;
      beyond = λ p l k. no_name p;
      once = λ p q u v n e. absurd (none_used p n);
      row = λ p u n. absurd (none_used p n);
      free = λ p u e. no_number 8643 (p * 67 + 1);
      opened = λ p u. no_number 256 (p - 1) ∙ sym (provided_false _ _ (none_open _));
      last = λ x l. no_sees 8643 x ∙ sym (writer_none [] x);
      until = λ p u c. absurd (not_both c (none_committed _));
      bar = λ p u e. absurd (let z : status_at (zeros 8643) p ≡ 0 = no_number 8643 (p * 67 + 1) in omega arith);
      edges = λ p q u v. no_edges 256 q p ∙ sym (to_false _ (λ c. not_both (chain_ends [] _ _ c).0 (none_committed _)));
    }

nothing_tidy : Tidy [] 0 0 (table (zeros 256) (zeros 8643) (zeros 256) (zeros 256))
nothing_tidy =
    record {
      held = nothing_held;
      keeps = committed [];
      keeping = record { forgot = none_gone (λ u. refl); placed = λ t e. absurd (⊎_elim (λ o. not_both o (none_open t)) (λ c. not_both c (none_committed t)) (or→ e)); only = λ p u n. absurd (none_used p n) };
      rests = λ t c. absurd (not_both c (none_committed t));
    }

fresh_kept : Keeps all_zero fresh
unfolding all_zero
fresh_kept = rw (no_number 3 0, no_number 3 1, no_number 3 2) (holds_steps refl nothing_tidy)

-- HOWEVER A RUN IS CUT between steps, the answers are the same
module _ (most : ℕ) (whole : List ℕ → Bool) where
  pub cut : (j : State) (p q : List ℕ) → length p % 4 ≡ 0 → all_says most whole j (p ++ q) ≡ all_says most whole j p ++ all_says most whole (after_all most whole j p) q
  unfolding all_says after_all
  cut j [] q e = refl
  cut j (k ∷ t ∷ x ∷ s ∷ p) q e = ap (λ (l : List Said). says most whole j k t x s ∷ l) (cut (after most whole j k t x s) p q (omega arith))
  cut j (k ∷ []) q e = absurd (omega arith)
  cut j (k ∷ t ∷ []) q e = absurd (omega arith)
  cut j (k ∷ t ∷ x ∷ []) q e = absurd (omega arith)

  pub cut_after : (j : State) (p q : List ℕ) → length p % 4 ≡ 0 → after_all most whole j (p ++ q) ≡ after_all most whole (after_all most whole j p) q
  unfolding after_all
  cut_after j [] q e = refl
  cut_after j (k ∷ t ∷ x ∷ s ∷ p) q e = cut_after (after most whole j k t x s) p q (omega arith)
  cut_after j (k ∷ []) q e = absurd (omega arith)
  cut_after j (k ∷ t ∷ []) q e = absurd (omega arith)
  cut_after j (k ∷ t ∷ x ∷ []) q e = absurd (omega arith)

-- BY CALLS
record Stands (run said : List ℕ) (b : Buffers) : Type 0 where
  whole : length run % 4 ≡ 0
  telling : said ≡ answers_to run
  keeping : Keeps b (after_all numbers (full numbers places) fresh run)

stands : {run said : List ℕ} {b : Buffers} → Calls run said b → Stands run said b
unfolding answers_to
stands no_call = record { whole = refl; telling = unfold all_says in refl; keeping = unfold after_all in fresh_kept }
stands (one_refused c (turned_away number place e r same kept)) = rw same (stands c)
stands (one_refused c (answered e r j)) = let z : ◌≡◌ {A = ℕ} 0 1 = cc in absurd (omega arith)
stands (one_accepted c (turned_away number place e r same kept)) = let z : ◌≡◌ {A = ℕ} 0 1 = cc in absurd (omega arith)
stands (one_accepted {run} {said} {part} {answers} {answers'} {lent} {left} c (answered e r j)) =
    let i = stands c in
    let w : length part ≡ 4 * length answers = (fitting lent part answers (sym e)).whole in
    let a = j.answered (after_all numbers (full numbers places) fresh run) i.keeping in
    record {
      whole = (let z : length (run ++ part) ≡ length run + length part = length-append run part in omega (arith, i.whole));
      telling = ap₂ (λ (x y : List ℕ). x ++ y) i.telling a ∙ sym (ap (map answer_number) (cut numbers (full numbers places) fresh run part i.whole) ∙ map-append answer_number (all_says numbers (full numbers places) fresh run) _);
      keeping = subst (Keeps left) (sym (cut_after numbers (full numbers places) fresh run part i.whole)) (j.kept (after_all numbers (full numbers places) fresh run) i.keeping);
    }

-- THE THEOREM
pub live_answers : {run said : List ℕ} {b : Buffers} → Calls run said b → said ≡ answers_to run
live_answers c = (stands c).telling

-- 18 APART, each answer is the one that a judge with room for every transaction gives over the same steps without those that 18 refused
pub room_given_back : {run said : List ℕ} {b : Buffers} → Calls run said b → answers_apart said ≡ roomy_answers_to (steps_apart run said)
unfolding answers_to
room_given_back {run} c = subst (λ (l : List ℕ). answers_apart l ≡ roomy_answers_to (steps_apart run l)) (sym (live_answers c)) (roomy run (full numbers places))

-- a call more gets the answers to its own steps
pub call_answers : {run said part answers answers' : List ℕ} {lent left : Buffers} → Calls run said lent → LiveCall lent part answers (Ok tt) left answers' → said ++ answers' ≡ answers_to (run ++ part)
call_answers c l = live_answers (one_accepted c l)

-- and so, on buffers that were reached, any two results are equal: what the call is answered, and the answers to its steps
pub live_call_one : {run said part answers x y : List ℕ} {lent left left' : Buffers} {r s : Result (Unit {0}) Refusal} → Calls run said lent → LiveCall lent part answers r left x → LiveCall lent part answers s left' y → (r ≡ s) × (x ≡ y)
live_call_one c (turned_away n p e f g h) (turned_away m q e' f' g' h') = (f ∙ e ∙ sym e' ∙ sym f', h ∙ sym h')
live_call_one c (turned_away n p e f g h) (answered e' f' j) = absurd (refused≢passed (e ∙ sym e'))
live_call_one c (answered e f j) (turned_away m q e' f' g' h') = absurd (refused≢passed (e' ∙ sym e))
live_call_one c (answered e f j) (answered e' f' j') = let k = (stands c).keeping in (f ∙ sym f', j.answered _ k ∙ sym (j'.answered _ k))
