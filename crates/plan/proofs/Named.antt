-- The members of a proposal, named one after another: what is known of the first i.
use Rattle.std.specs.Prelude.{None, Some}
use mathlib.Core.Path.{◌≡◌, refl, sym, ap, ◌∙◌}
use mathlib.Core.Bool.{true, false, false≢true}
use mathlib.Core.Logic.{◌⊎◌, inl, inr, ⊎_elim}
use mathlib.Core.List.{List, [], ◌∷◌, ◌++◌}
use Prim.Native.Nat.{ℕ, suc, ◌+◌, ◌<◌}
use native.Mathlib.Numerals.{add-one}
use lib.ListN.{length, get_or, take, drop, set, replicate, length-set, length-replicate}
use lib.Seq.{take-suc, drop-cons}
use Rattle.words.specs.Tests.{◌is◌, ◌and◌, fails}
use Rattle.words.specs.Lists.{member, all, distinct}
use Rattle.words.proofs.Truth.{decide, not_both, to_false, same_test, →and, and_no_left, and_no_right, →fails, is→, isnt→}
use Rattle.words.proofs.Places.{member_head, member→, member_left, member_right, member_either, all→, →all}
use Rattle.verdict.specs.Next.{up_to_zero}
use Rattle.verdict.specs.Inner.Following.{Split}
use Rattle.verdict.proofs.Loosely.{distinct_behind, distinct_more}
use Rattle.verdict.proofs.HandedIn.{Front, front_none, front_more, goes}
use Rattle.plan.specs.Inner.Marks.{table, marked, MembersOf}
use Rattle.plan.proofs.MarkLaws.{zeros_unmarked, marked_set_same, marked_set_other}

-- ONE MEMBER MORE, AT THE END
member_last : (a t : ℕ) (w : List ℕ) → member a (w ++ t ∷ []) ≡ true → (member a w ≡ true) ⊎ (a ≡ t)
unfolding member
member_last a t w m = ⊎_elim inl (λ (k : member a (t ∷ []) ≡ true). ⊎_elim inr (λ (z : member a [] ≡ true). absurd (false≢true z)) (member→ a t [] k)) (member_either a w (t ∷ []) m)

-- the first i members are different, those of `who`, and marked
pub record Named (who proposal : List ℕ) (i : ℕ) (marks : List ℕ) : Type 0 where
  pub front : Front proposal i
  pub apart : distinct (take i proposal) ≡ true
  pub those : all (marked who) (take i proposal) ≡ true
  pub size : length marks ≡ table
  pub each : (t : ℕ) → marked marks t ≡ member t (take i proposal)

module _ (who proposal : List ℕ) (i : ℕ) (marks : List ℕ) (n : Named who proposal i marks) where
  -- these are all
  pub named_all : Split proposal i → MembersOf who proposal (Some (record { count = i; marks = marks }))
  named_all s = (s, rw s.front n.apart, rw s.front n.those, n.size, λ t. rw s.front (n.each t))

  module _ (h : i < length proposal) (z : get_or proposal i 0 ≡ 0 → ⊥) where
    abbrev t : ℕ
    t = get_or proposal i 0

    longer : take (i + 1) proposal ≡ take i proposal ++ t ∷ []
    longer = ap (λ (k : ℕ). take k proposal) (add-one i) ∙ take-suc proposal i 0 h

    -- one that may be named
    pub named_more : marked who t ≡ true → marked marks t ≡ false → t < table → Named who proposal (i + 1) (set marks t 1)
    unfolding fails ◌is◌
    named_more w f l =
        record {
          front = front_more proposal i h n.front z;
          apart = rw longer (distinct_more t (take i proposal) n.apart (sym (n.each t) ∙ f));
          those = rw longer (→all _ (take i proposal ++ t ∷ []) (λ a m. ⊎_elim (λ k. all→ _ (take i proposal) n.those a k) (λ (e : a ≡ t). rw e w) (member_last a t (take i proposal) m)));
          size = length-set marks t 1 ∙ n.size;
          each = λ a. rw longer (go a (decide (a is t)));
        }
      where
        go : (a : ℕ) → ((a is t) ≡ true) ⊎ ((a is t) ≡ false) → marked (set marks t 1) a ≡ member a (take i proposal ++ t ∷ [])
        go a (inl e) =
            ap (marked (set marks t 1)) (is→ e) ∙ marked_set_same marks t 1 (rw n.size l)
            ∙ sym (ap (λ (b : ℕ). member b (take i proposal ++ t ∷ [])) (is→ e) ∙ member_right t (take i proposal) (t ∷ []) (member_head t []))
        go a (inr e) =
            marked_set_other marks t 1 a (isnt→ e) ∙ n.each a
            ∙ same_test (λ m. member_left a (take i proposal) (t ∷ []) m) (λ m. ⊎_elim (λ k. k) (λ (y : a ≡ t). absurd (isnt→ e y)) (member_last a t (take i proposal) m))

    whole : up_to_zero proposal ≡ take i proposal ++ t ∷ up_to_zero (drop (suc i) proposal)
    whole = n.front.front ∙ ap (λ (l : List ℕ). take i proposal ++ up_to_zero l) (drop-cons proposal i 0 h) ∙ ap (λ (l : List ℕ). take i proposal ++ l) (goes (get_or proposal i 0) (drop (suc i) proposal) z)

    -- one that may not
    pub named_bad : (marked who t and fails (marked marks t)) ≡ false → MembersOf who proposal None
    named_bad f = go (decide (marked who t))
      where
        rest : List ℕ
        rest = up_to_zero (drop (suc i) proposal)

        go : (marked who t ≡ true) ⊎ (marked who t ≡ false) → (distinct (up_to_zero proposal) and all (marked who) (up_to_zero proposal)) ≡ false
        go (inr k) = and_no_right _ (to_false _ (λ b. not_both (all→ _ (up_to_zero proposal) b t (rw whole (member_right t (take i proposal) (t ∷ rest) (member_head t rest)))) k))
        go (inl k) =
            let again : member t (take i proposal) ≡ true = sym (n.each t) ∙ decided (decide (marked marks t)) k in
            and_no_left _ (rw whole (to_false _ (λ d. not_both again (distinct_behind t (take i proposal) rest d))))
          where
            decided : (marked marks t ≡ true) ⊎ (marked marks t ≡ false) → marked who t ≡ true → marked marks t ≡ true
            decided (inl y) k = y
            decided (inr y) k = absurd (not_both (→and k (→fails y)) f)

-- nobody is named yet
pub named_none : (who proposal marks : List ℕ) → marks ≡ replicate table 0 → Named who proposal 0 marks
unfolding distinct all member
named_none who proposal marks e =
    record { front = front_none proposal; apart = refl; those = refl; size = ap length e ∙ length-replicate {A = ℕ} table 0; each = λ t. ap (λ (m : List ℕ). marked m t) e ∙ zeros_unmarked table t }
