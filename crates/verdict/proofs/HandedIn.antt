-- The order handed to "next": the numbers up to the first 0 and those from there on, and when it is not on the list.
use mathlib.Core.Path.{◌≡◌, refl, sym, ap, ◌∙◌}
use mathlib.Core.Bool.{true, false}
use mathlib.Core.List.{List, [], ◌∷◌, ◌++◌, append-nil, append_assoc}
use Prim.Native.Nat.{ℕ, suc, ◌+◌, ◌≤◌, ◌<◌}
use native.Mathlib.Omega.{arith}
use native.Mathlib.Numerals.{add-one}
use lib.ListN.{length, get_or, take, drop, drop_of_length-le}
use lib.Seq.{drop-cons, take-suc}
use Rattle.words.specs.Tests.{◌is◌}
use Rattle.words.specs.Lists.{all}
use Rattle.words.proofs.Truth.{→and, and_true, and_no_left, and_no_right, →fails, →not_fails, →is, →isnt, provided_true, provided_false}
use Rattle.verdict.specs.Limits.{transactions}
use Rattle.verdict.specs.Clean.{is_clean}
use Rattle.verdict.specs.Replay.{explains_loosely, explains}
use Rattle.verdict.specs.Next.{up_to_zero, from_zero, list_refusal}
use Rattle.verdict.specs.Inner.Following.{Split}
use Rattle.verdict.specs.Answers.{Passed, Refused}
use Rattle.verdict.proofs.Refused.{when_yes, when_no}

-- the first i are no 0
pub record Front (handed_in : List ℕ) (i : ℕ) : Type 0 where
  pub front : up_to_zero handed_in ≡ take i handed_in ++ up_to_zero (drop i handed_in)
  pub back : from_zero handed_in ≡ from_zero (drop i handed_in)

pub front_none : (handed_in : List ℕ) → Front handed_in 0
front_none handed_in = record { front = refl; back = refl }

module _ (t : ℕ) (l : List ℕ) where
  pub stops : t ≡ 0 → up_to_zero (t ∷ l) ≡ []
  unfolding up_to_zero
  stops z = provided_true _ _ (→is z)

  pub goes : (t ≡ 0 → ⊥) → up_to_zero (t ∷ l) ≡ t ∷ up_to_zero l
  unfolding up_to_zero
  goes n = provided_false _ _ (→isnt n)

  pub starts : t ≡ 0 → from_zero (t ∷ l) ≡ t ∷ l
  unfolding from_zero
  starts z = provided_true _ _ (→is z)

  pub passes : (t ≡ 0 → ⊥) → from_zero (t ∷ l) ≡ from_zero l
  unfolding from_zero
  passes n = provided_false _ _ (→isnt n)

module _ (handed_in : List ℕ) (i : ℕ) (h : i < length handed_in) (f : Front handed_in i) where
  split : drop i handed_in ≡ get_or handed_in i 0 ∷ drop (suc i) handed_in
  split = drop-cons handed_in i 0 h

  pub front_more : (get_or handed_in i 0 ≡ 0 → ⊥) → Front handed_in (i + 1)
  front_more n =
      record {
        front = f.front ∙ ap (λ (l : List ℕ). take i handed_in ++ up_to_zero l) split ∙ ap (λ (l : List ℕ). take i handed_in ++ l) (goes (get_or handed_in i 0) (drop (suc i) handed_in) n)
            ∙ sym (append_assoc (take i handed_in) (get_or handed_in i 0 ∷ []) (up_to_zero (drop (suc i) handed_in))) ∙ rw (add-one i, take-suc handed_in i 0 h) refl;
        back = f.back ∙ ap from_zero split ∙ passes (get_or handed_in i 0) (drop (suc i) handed_in) n ∙ rw (add-one i) refl;
      }

  pub front_ends : get_or handed_in i 0 ≡ 0 → Split handed_in i
  front_ends z =
      record {
        size = omega arith;
        front = f.front ∙ ap (λ (l : List ℕ). take i handed_in ++ up_to_zero l) split ∙ ap (λ (l : List ℕ). take i handed_in ++ l) (stops (get_or handed_in i 0) (drop (suc i) handed_in) z) ∙ append-nil (take i handed_in);
        back = f.back ∙ ap from_zero split ∙ starts (get_or handed_in i 0) (drop (suc i) handed_in) z ∙ sym split;
      }

pub front_whole : (handed_in : List ℕ) (i : ℕ) → i ≡ length handed_in → Front handed_in i → Split handed_in i
unfolding up_to_zero from_zero
front_whole handed_in i e f =
    let le : length handed_in ≤ i = omega arith in
    let n : drop i handed_in ≡ [] = drop_of_length-le handed_in le in
    record {
      size = omega arith;
      front = f.front ∙ ap (λ (l : List ℕ). take i handed_in ++ up_to_zero l) n ∙ append-nil (take i handed_in);
      back = f.back ∙ ap from_zero n ∙ sym n;
    }

-- what stands from place i on is all 0
pub zero_more : (handed_in : List ℕ) (i : ℕ) → i < length handed_in → get_or handed_in i 0 ≡ 0 → all (λ t. t is 0) (drop i handed_in) ≡ all (λ t. t is 0) (drop (i + 1) handed_in)
unfolding all
zero_more handed_in i h z = ap (all (λ t. t is 0)) (drop-cons handed_in i 0 h) ∙ and_true (→is z) ∙ rw (add-one i) refl

pub zero_not : (handed_in : List ℕ) (i : ℕ) → i < length handed_in → (get_or handed_in i 0 ≡ 0 → ⊥) → all (λ t. t is 0) (drop i handed_in) ≡ false
unfolding all
zero_not handed_in i h n = ap (all (λ t. t is 0)) (drop-cons handed_in i 0 h) ∙ and_no_left _ (→isnt n)

pub zero_all : (handed_in : List ℕ) (i : ℕ) → length handed_in ≤ i → all (λ t. t is 0) (drop i handed_in) ≡ true
unfolding all
zero_all handed_in i le = ap (all (λ t. t is 0)) (drop_of_length-le handed_in le)

-- 14, from the answers to the questions that decide it
module _ (log handed_in : List ℕ) where
  pub not_clean : is_clean log ≡ false → list_refusal transactions log handed_in ≡ Refused 14 0
  unfolding list_refusal explains explains_loosely
  not_clean c = when_yes 14 0 (→fails (and_no_left _ (and_no_left _ (and_no_left _ (and_no_left _ c)))))

  module _ (k : ℕ) (split : Split handed_in k) where
    pub more_behind : all (λ t. t is 0) (drop k handed_in) ≡ false → list_refusal transactions log handed_in ≡ Refused 14 0
    unfolding list_refusal
    more_behind z = when_yes 14 0 (→fails (and_no_right _ (rw split.back z)))

    pub off_the_list : explains transactions log (take k handed_in) ≡ false → list_refusal transactions log handed_in ≡ Refused 14 0
    unfolding list_refusal
    off_the_list n = when_yes 14 0 (→fails (and_no_left _ (rw split.front n)))

    pub on_the_list : all (λ t. t is 0) (drop k handed_in) ≡ true → explains transactions log (take k handed_in) ≡ true → list_refusal transactions log handed_in ≡ Passed
    unfolding list_refusal
    on_the_list z n = when_no 14 0 (→not_fails (→and (rw split.front n) (rw split.back z)))
