-- 18 apart, every answer is the one that a judge with room for every transaction gives over the same steps without those that 18 refused.
use mathlib.Core.Path.{◌≡◌, refl, sym, ap, subst, ◌∙◌}
use mathlib.Core.Bool.{Bool, true, false}
use mathlib.Core.Logic.{◌⊎◌, inl, inr, ⊎_elim}
use mathlib.Core.List.{List, [], ◌∷◌, map}
use Prim.Native.Nat.{ℕ}
use native.Mathlib.Omega.{arith}
use Rattle.words.specs.Tests.{◌is◌, ◌upto◌, ◌and◌, ◌or◌, fails, provided◌then◌else◌}
use Rattle.words.proofs.Truth.{decide, is→, →is, isnt→, →isnt, provided_true, provided_false}
use Rattle.verdict.specs.Refusal.{object_allowed}
use Rattle.live.specs.Answers.{Said, Taken, Yes, Breach, CycleClosed, answer_number}
use Rattle.live.specs.SoFar.{numbers, more, so_far, is_open, passed}
use Rattle.live.specs.Breach.{breached}
use Rattle.live.specs.Closed.{closed}
use Rattle.live.specs.Says.{State, going, over, fresh, number, commit_says, good_says, says, after, all_says}
use Rattle.live.specs.Apart.{answers_apart, steps_apart, never_full, roomy_answers_to}
use Rattle.live.proofs.Answering.{says_refused, after_refused}

-- the first number of those that apply
first_number : (b3 b4 b5 b6 b7 b18 b8 : Bool) → ℕ
first_number b3 b4 b5 b6 b7 b18 b8 = provided b3 then 3 else provided b4 then 4 else provided b5 then 5 else provided b6 then 6 else provided b7 then 7 else provided b18 then 18 else provided b8 then 8 else 0

-- only 18 depends on whether the places are full
first_apart : (b3 b4 b5 b6 b7 begin full b8 : Bool) → (first_number b3 b4 b5 b6 b7 (begin and full) b8 ≡ 18 → ⊥)
    → first_number b3 b4 b5 b6 b7 (begin and full) b8 ≡ first_number b3 b4 b5 b6 b7 (begin and false) b8
unfolding first_number provided◌then◌else◌ ◌and◌
first_apart true b4 b5 b6 b7 begin full b8 d = refl
first_apart false true b5 b6 b7 begin full b8 d = refl
first_apart false false true b6 b7 begin full b8 d = refl
first_apart false false false true b7 begin full b8 d = refl
first_apart false false false false true begin full b8 d = refl
first_apart false false false false false false full b8 d = refl
first_apart false false false false false true true b8 d = absurd (d refl)
first_apart false false false false false true false b8 d = refl

module _ (most : ℕ) (whole : List ℕ → Bool) where
  number_apart : (log : List ℕ) (k t x s : ℕ) → (number most whole log k t x s ≡ 18 → ⊥) → number most whole log k t x s ≡ number most never_full log k t x s
  unfolding number never_full first_number
  number_apart log k t x s =
      first_apart (fails (1 upto k and k upto 5)) (fails (1 upto t and t upto most)) (fails (object_allowed k x)) (fails (k is 2 or s is 0)) (k is 1 and passed log t) (k is 1) (whole log)
      (fails (k is 1 or is_open log t))

  -- a good step's answer is not 18
  good_number : (k : ℕ) (log : List ℕ) → (answer_number (good_says most whole k log) is 18) ≡ false
  unfolding good_says commit_says answer_number provided◌then◌else◌
  good_number k log = go (k is 4) (breached most (so_far most log)) (closed most (so_far most log))
    where
      go : (c b l : Bool) → (answer_number (provided c then (provided b then Breach else provided l then CycleClosed else Yes) else Taken) is 18) ≡ false
      go false b l = →isnt (λ (e : ◌≡◌ {A = ℕ} 64 18). omega arith)
      go true true l = →isnt (λ (e : ◌≡◌ {A = ℕ} 66 18). omega arith)
      go true false true = →isnt (λ (e : ◌≡◌ {A = ℕ} 67 18). omega arith)
      go true false false = →isnt (λ (e : ◌≡◌ {A = ℕ} 65 18). omega arith)

  -- a step gets 18 and changes nothing, or its answer and the state after it are those of a judge with room
  Apart : State → ℕ → ℕ → ℕ → ℕ → Type 0
  Apart j k t x s =
      (((answer_number (says most whole j k t x s) is 18) ≡ true) × (after most whole j k t x s ≡ j))
      ⊎ (((answer_number (says most whole j k t x s) is 18) ≡ false) × (says most whole j k t x s ≡ says most never_full j k t x s) × (after most whole j k t x s ≡ after most never_full j k t x s))

  module _ (log : List ℕ) (k t x s : ℕ) where
    refused_apart : number most whole log k t x s ≡ 18 → Apart (going log) k t x s
    unfolding Apart
    refused_apart e =
        inl (
          subst (λ (a : Said). (answer_number a is 18) ≡ true) (says_refused most whole log k t x s e (λ (z : ◌≡◌ {A = ℕ} 18 0). omega arith)) (unfold answer_number in (→is refl)),
          after_refused most whole log k t x s e (λ (z : ◌≡◌ {A = ℕ} 18 0). omega arith),
        )

    other_number : (number most whole log k t x s ≡ 18 → ⊥) → (answer_number (says most whole (going log) k t x s) is 18) ≡ false
    unfolding says answer_number
    other_number d = go (decide (number most whole log k t x s is 0))
      where
        go : ((number most whole log k t x s is 0) ≡ true) ⊎ ((number most whole log k t x s is 0) ≡ false) → (answer_number (says most whole (going log) k t x s) is 18) ≡ false
        go (inl e) = rw (provided_true (good_says most whole k (more log k t x s)) (Said.Refused (number most whole log k t x s)) e) (good_number k (more log k t x s))
        go (inr e) = rw (provided_false (good_says most whole k (more log k t x s)) (Said.Refused (number most whole log k t x s)) e) (→isnt d)

    other_apart : (number most whole log k t x s ≡ 18 → ⊥) → Apart (going log) k t x s
    unfolding Apart says after good_says commit_says
    other_apart d = let e = number_apart log k t x s d in inr (other_number d, rw e refl, rw e refl)

  step_apart : (j : State) (k t x s : ℕ) → Apart j k t x s
  unfolding Apart says after
  step_apart (over a) k t x s = ⊎_elim (λ e. inl (e, refl)) (λ e. inr (e, refl, refl)) (decide (answer_number a is 18))
  step_apart (going log) k t x s = ⊎_elim (λ e. refused_apart log k t x s (is→ e)) (λ e. other_apart log k t x s (isnt→ e)) (decide (number most whole log k t x s is 18))

  -- the answers from j on, with the places there are and with room
  abbrev told : State → List ℕ → List ℕ
  told j run = map answer_number (all_says most whole j run)

  abbrev roomy_told : State → List ℕ → List ℕ
  roomy_told j run = map answer_number (all_says most never_full j run)

  pub told_apart : (j : State) (run : List ℕ) → answers_apart (map answer_number (all_says most whole j run)) ≡ map answer_number (all_says most never_full j (steps_apart run (map answer_number (all_says most whole j run))))
  unfolding answers_apart steps_apart all_says Apart
  told_apart j [] = refl
  told_apart j (k ∷ []) = refl
  told_apart j (k ∷ t ∷ []) = refl
  told_apart j (k ∷ t ∷ x ∷ []) = refl
  told_apart j (k ∷ t ∷ x ∷ s ∷ run) = go (step_apart j k t x s) (told_apart next run)
    where
      next : State
      next = after most whole j k t x s

      rest : List ℕ
      rest = steps_apart run (told next run)

      go : Apart j k t x s → answers_apart (told next run) ≡ roomy_told next rest → answers_apart (told j (k ∷ t ∷ x ∷ s ∷ run)) ≡ roomy_told j (steps_apart (k ∷ t ∷ x ∷ s ∷ run) (told j (k ∷ t ∷ x ∷ s ∷ run)))
      go (inl (e, f)) rec = provided_true _ _ e ∙ rec ∙ ap (λ (i : State). roomy_told i rest) f ∙ ap (roomy_told j) (sym (provided_true _ _ e))
      go (inr (e, f, g)) rec = provided_false _ _ e ∙ (λ i. answer_number (f i) ∷ (rec ∙ ap (λ (i : State). roomy_told i rest) g) i) ∙ ap (roomy_told j) (sym (provided_false _ _ e))

-- 18 APART, THE ANSWERS ARE THOSE OF A JUDGE WITH ROOM FOR EVERY TRANSACTION
pub roomy : (run : List ℕ) (whole : List ℕ → Bool)
    → answers_apart (map answer_number (all_says numbers whole fresh run)) ≡ roomy_answers_to (steps_apart run (map answer_number (all_says numbers whole fresh run)))
unfolding roomy_answers_to
roomy run whole = told_apart numbers whole fresh run
