-- The exact search from its beginning to its answer.
use mathlib.Core.Path.{◌≡◌, refl, sym, ap, subst, ◌∙◌}
use mathlib.Core.Bool.{Bool, true, false, false≢true}
use mathlib.Core.Logic.{◌⊎◌, inl, inr}
use mathlib.Core.List.{List, []}
use Prim.Native.Nat.{ℕ, zero, suc, ◌-◌, ◌*◌, ◌%◌, ◌^◌, ◌≤◌, ◌<◌}
use native.Mathlib.Nat.{one-mul}
use native.Mathlib.Omega.{arith}
use lib.ListN.{take, replicate, length-replicate, get_or-replicate}
use lib.Pow.{shl_exact}
use Rattle.words.specs.Tests.{◌below◌, count}
use Rattle.words.specs.Lists.{member, all, distinct, zeros, entries}
use Rattle.words.specs.First.{dictionary, First}
use Rattle.verdict.specs.Reason.{without_reasons}
use Rattle.verdict.specs.Outcome.{order, none, said, members}
use Rattle.verdict.specs.Witness.{in_threes, witness}
use Rattle.verdict.specs.Judgement.{Holds}
use Rattle.words.proofs.Truth.{decide, →fails, below→, →below, →not_below, not_below→, provided_true}
use Rattle.bits.specs.Word.{marked}
use Rattle.bits.proofs.Marks.{mark_below}
use Rattle.verdict.specs.Limits.{transactions, witness_buffer, most_searched}
use Rattle.verdict.specs.Log.{committed_count}
use Rattle.verdict.specs.Answers.{Passed, Refused}
use Rattle.verdict.specs.Refusal.{log_refusal, search_refusal}
use Rattle.verdict.specs.Clean.{is_clean}
use Rattle.verdict.specs.Replay.{explains_loosely}
use Rattle.verdict.specs.Exact.{Exact, exact, exact_none}
use Rattle.verdict.specs.Inner.Placing.{ran, CommittedList, Placed, Searched, found, missed}
use Rattle.verdict.specs.declared.answers.Answer.TheVariants.{Order}
use Rattle.verdict.specs.declared.answers.Witnessed.{Witnessed}
use Rattle.verdict.proofs.Refused.{one_place, when_yes, when_no}
use Rattle.verdict.proofs.Cleanly.{clean_cleanness}
use Rattle.verdict.proofs.WellFormed.{refused≢passed, when→, well_formed}
use Rattle.verdict.proofs.Counted.{committed_fit}
use Rattle.verdict.proofs.Loosely.{all_placed}

-- no more are left than the search takes: at first, all that committed
module _ (log : List ℕ) {ones : List ℕ} {n : ℕ} (list : CommittedList log ones n) where
  pub few_enough : log_refusal log ≡ Passed → committed_count log ≤ most_searched → n ≤ most_searched
  few_enough well h = omega (arith, list.counted, committed_fit log (well_formed log well))

-- what all pass is counted at each
all_counted : (n : ℕ) (p : ℕ → Bool) → ((i : ℕ) → i < n → p i ≡ true) → count n p ≡ n
unfolding count
all_counted zero p f = refl
all_counted (suc n) p f = provided_true _ _ (f n (omega arith)) ∙ ap suc (all_counted n p (λ (i : ℕ) (h : i < n). f i (omega arith)))

-- at first nothing is placed, and each of the n places of the list is marked
pub nothing_placed : (log ones : List ℕ) {n : ℕ} → n ≤ most_searched → Placed log ones n (record { free = (1 * 2 ^ n) % 2 ^ 64 - 1; at = 0 }) [] (replicate 64 0)
unfolding distinct all ran
nothing_placed log ones {n} few =
    record {
      so_far = record { different = refl; members = refl; right = λ i h j k. absurd (false≢true (unfold member in k)); size = length-replicate {A = ℕ} 64 0; writers = λ x h. get_or-replicate 64 x 0 0 h };
      left = λ i h. places i ∙ →below h ∙ sym (→fails (unfold member in refl));
      within = λ i m. below→ (sym (places i) ∙ m);
      fills = omega (arith, all_counted n (marked ((1 * 2 ^ n) % 2 ^ 64 - 1)) (λ i h. places i ∙ →below h));
    }
  where
    places : (i : ℕ) → marked ((1 * 2 ^ n) % 2 ^ 64 - 1) i ≡ (i below n)
    places i = ap (λ (m : ℕ). marked (m - 1) i) (shl_exact 1 n 64 (omega arith) (omega arith) ∙ one-mul (2 ^ n)) ∙ mark_below n i

-- nobody committed: the empty order is the only one
pub nobody_placed : {log ones : List ℕ} → log_refusal log ≡ Passed → is_clean log ≡ true → CommittedList log ones 0 → {r : Witnessed} → (r.answer ≡ Order 0) × (r.list ≡ zeros witness_buffer) → Holds (Exact transactions log) r
unfolding said members without_reasons in_threes witness entries zeros dictionary
nobody_placed {log} {ones} well clean list e =
    record {
      outcome = order [];
      right = exact (record { one = all_placed log (well_formed log well) [] _ (nothing_placed log ones {n = 0} (omega arith)).so_far clean (λ t _ c. let i = list.every_one t c in absurd (omega (arith, i.1))); none_earlier = λ v h. refl });
      says = e.0;
      listed = e.1;
    }

-- what is found is the answer
pub order_found : (log : List ℕ) (n : ℕ) (array : List ℕ) → Searched log [] n true array → Exact transactions log (order (take n array))
order_found log n array (found u f e) = exact (subst (First dictionary (explains_loosely transactions log)) (sym e) f)

pub none_found : (log : List ℕ) (n : ℕ) (array : List ℕ) → is_clean log ≡ true → Searched log [] n false array → Exact transactions log none
none_found log n array c (missed g) = exact_none (clean_cleanness log c) g

-- 13 applies where more are committed than the search takes
pub search_over : (log : List ℕ) → most_searched < committed_count log → search_refusal log ≡ Refused 13 (committed_count log)
unfolding search_refusal
search_over log h = when_yes 13 (committed_count log) (→below h)

pub search_within : (log : List ℕ) → committed_count log ≤ most_searched → search_refusal log ≡ Passed
unfolding search_refusal
search_within log h = when_no 13 (committed_count log) (→not_below h)

-- the search turns away with 13 alone, and takes no more than it can
pub search_13 : (log : List ℕ) {n p : ℕ} → search_refusal log ≡ Refused n p → search_refusal log ≡ Refused 13 p
unfolding search_refusal
search_13 log {n} {p} e = go (decide (most_searched below committed_count log))
  where
    go : ((most_searched below committed_count log) ≡ true) ⊎ ((most_searched below committed_count log) ≡ false) → search_refusal log ≡ Refused 13 p
    go (inl b) =
        let f : Refused 13 (committed_count log) ≡ Refused n p = sym (when_yes 13 (committed_count log) b) ∙ e in
        when_yes 13 (committed_count log) b ∙ ap (Refused 13) (one_place f)
    go (inr b) = absurd (refused≢passed (sym e ∙ when_no 13 (committed_count log) b))

pub search_few : (log : List ℕ) → search_refusal log ≡ Passed → committed_count log ≤ most_searched
unfolding search_refusal
search_few log e = not_below→ (when→ 13 (committed_count log) _ e)
