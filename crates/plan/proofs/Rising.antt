-- The numbers that pass, rising: one more, how many they are, and which.
use mathlib.Core.Path.{◌≡◌, refl, sym, ap, ◌∙◌}
use mathlib.Core.Bool.{Bool, true, false, false≢true}
use mathlib.Core.Logic.{◌⊎◌, inl, inr, ⊎_elim}
use mathlib.Core.List.{List, [], ◌∷◌, ◌++◌, append-nil}
use Prim.Native.Nat.{ℕ, zero, suc, ◌+◌, ◌-◌, ◌<◌, ◌≤◌}
use native.Mathlib.Omega.{arith}
use native.Mathlib.Numerals.{add-one}
use lib.ListN.{length, set, replicate, length-append, length-replicate}
use lib.Seq.{set-append_seam, append_snoc}
use Rattle.words.specs.Tests.{◌below◌}
use Rattle.words.specs.Lists.{member, distinct, zeros, entries}
use Rattle.words.proofs.Truth.{decide, not_both, to_false, provided_true, provided_false, below→, not_below→}
use Rattle.words.proofs.Places.{member_head, member→, member_left, member_right, member_either}
use Rattle.verdict.proofs.Loosely.{distinct_more}
use Rattle.plan.specs.Proposal.{proposal_entries}
use Rattle.plan.specs.Redo.{rising}
use Rattle.plan.specs.Inner.Marks.{table, marked}
use Rattle.plan.specs.Inner.Laying.{Laid}

module _ (p : ℕ → Bool) where
  rising_yes : (n : ℕ) → p n ≡ true → rising (suc n) p ≡ rising n p ++ n ∷ []
  unfolding rising
  rising_yes n h = ap (λ (l : List ℕ). rising n p ++ l) (provided_true (n ∷ []) [] h)

  rising_no : (n : ℕ) → p n ≡ false → rising (suc n) p ≡ rising n p
  unfolding rising
  rising_no n h = ap (λ (l : List ℕ). rising n p ++ l) (provided_false (n ∷ []) [] h) ∙ append-nil (rising n p)

  -- no more than there are numbers but 0
  rising_length : p 0 ≡ false → (n : ℕ) → length (rising (suc n) p) ≤ n
  rising_length z zero = rw (rising_no 0 z) (unfold rising in (omega arith))
  rising_length z (suc n) = go (decide (p (suc n))) (rising_length z n)
    where
      go : (p (suc n) ≡ true) ⊎ (p (suc n) ≡ false) → length (rising (suc n) p) ≤ n → length (rising (suc (suc n)) p) ≤ suc n
      go (inl h) rec = let e : length (rising (suc (suc n)) p) ≡ length (rising (suc n) p) + 1 = ap length (rising_yes (suc n) h) ∙ length-append (rising (suc n) p) (suc n ∷ []) in omega arith
      go (inr h) rec = let e : length (rising (suc (suc n)) p) ≡ length (rising (suc n) p) = ap length (rising_no (suc n) h) in omega arith

  -- those below n that pass
  pub rising_member : (n t : ℕ) → member t (rising n p) ≡ true → (t < n) × (p t ≡ true)
  unfolding rising member
  rising_member zero t m = absurd (false≢true m)
  rising_member (suc n) t m = go (decide (p n)) (rising_member n t)
    where
      go : (p n ≡ true) ⊎ (p n ≡ false) → (member t (rising n p) ≡ true → (t < n) × (p t ≡ true)) → (t < suc n) × (p t ≡ true)
      go (inl h) rec =
          ⊎_elim (λ k. let r = rec k in (omega (arith, r.0), r.1))
          (λ k. ⊎_elim (λ (e : t ≡ n). (omega arith, rw e h)) (λ (z : member t [] ≡ true). absurd (false≢true z)) (member→ t n [] k))
          (member_either t (rising n p) (n ∷ []) (rw (rising_yes n h) at m))
      go (inr h) rec = let r = rec (rw (rising_no n h) at m) in (omega (arith, r.0), r.1)

  pub member_rising : (n t : ℕ) → t < n → p t ≡ true → member t (rising n p) ≡ true
  member_rising zero t h q = absurd (omega arith)
  member_rising (suc n) t h q = go (decide (t below n)) (decide (p n)) (λ k. member_rising n t k q)
    where
      go : ((t below n) ≡ true) ⊎ ((t below n) ≡ false) → (p n ≡ true) ⊎ (p n ≡ false) → (t < n → member t (rising n p) ≡ true) → member t (rising (suc n) p) ≡ true
      go (inl k) (inl y) rec = rw (rising_yes n y) (member_left t (rising n p) (n ∷ []) (rec (below→ k)))
      go (inl k) (inr y) rec = rw (rising_no n y) (rec (below→ k))
      go (inr k) (inl y) rec = let e : t ≡ n = omega (arith, not_below→ k) in rw (rising_yes n y, e) (member_right n (rising n p) (n ∷ []) (member_head n []))
      go (inr k) (inr y) rec = let e : t ≡ n = omega (arith, not_below→ k) in absurd (not_both q (rw e y))

  pub rising_distinct : (n : ℕ) → distinct (rising n p) ≡ true
  rising_distinct zero = unfold rising distinct in refl
  rising_distinct (suc n) = go (decide (p n)) (rising_distinct n)
    where
      go : (p n ≡ true) ⊎ (p n ≡ false) → distinct (rising n p) ≡ true → distinct (rising (suc n) p) ≡ true
      go (inl h) rec = rw (rising_yes n h) (distinct_more n (rising n p) rec (to_false _ (λ m. let k : n < n = (rising_member n n m).0 in omega arith)))
      go (inr h) rec = rw (rising_no n h) rec

  pub rising_few : p 0 ≡ false → length (rising table p) ≤ proposal_entries
  rising_few z = rising_length z 128

-- ONE MEMBER MORE, LAID BEHIND THE OTHERS
entries_more : (n : ℕ) (w : List ℕ) (t : ℕ) → length w < n → set (entries n w) (length w) t ≡ entries n (w ++ t ∷ [])
unfolding entries zeros
entries_more n w t h =
    let k : n - length w ≡ suc (n - suc (length w)) = omega arith in
    let e : length (w ++ t ∷ []) ≡ suc (length w) = length-append w (t ∷ []) ∙ omega arith in
    rw (k, e) (set-append_seam w 0 (replicate (n - suc (length w)) 0) t ∙ sym (append_snoc w t (replicate (n - suc (length w)) 0)))

pub entries_size : (n : ℕ) (w : List ℕ) → length w ≤ n → length (entries n w) ≡ n
unfolding entries zeros
entries_size n w h =
    let e : length (w ++ replicate (n - length w) 0) ≡ length w + length (replicate {A = ℕ} (n - length w) 0) = length-append w (replicate (n - length w) 0) in
    let f : length (replicate {A = ℕ} (n - length w) 0) ≡ n - length w = length-replicate {A = ℕ} (n - length w) 0 in
    omega arith

pub laid_none : (marks proposal : List ℕ) → proposal ≡ zeros proposal_entries → Laid marks 0 proposal 0
unfolding rising entries
laid_none marks proposal e = record { counted = refl; laid = e }

module _ (marks : List ℕ) (t : ℕ) (proposal : List ℕ) (count : ℕ) (l : Laid marks t proposal count) where
  pub laid_not : marked marks t ≡ false → Laid marks (t + 1) proposal count
  laid_not h =
      let e : rising (t + 1) (marked marks) ≡ rising t (marked marks) = ap (λ (n : ℕ). rising n (marked marks)) (add-one t) ∙ rising_no (marked marks) t h in
      record { counted = rw e l.counted; laid = rw e l.laid }

  module _ (h : marked marks t ≡ true) (z : marked marks 0 ≡ false) (b : t < table) where
    few : length (rising t (marked marks)) < proposal_entries
    few = go t refl
      where
        go : (n : ℕ) → t ≡ n → length (rising t (marked marks)) < proposal_entries
        go zero e = absurd (not_both h (rw e z))
        go (suc n) e = let r : length (rising (suc n) (marked marks)) ≤ n = rising_length (marked marks) z n in rw e (omega arith)

    pub laid_room : count < length proposal
    laid_room = rw (l.laid, l.counted, entries_size proposal_entries (rising t (marked marks)) (omega (arith, few))) few

    pub laid_more : Laid marks (t + 1) (set proposal count t) (count + 1)
    laid_more =
        let w = rising t (marked marks) in
        let e : rising (t + 1) (marked marks) ≡ rising t (marked marks) ++ t ∷ [] = ap (λ (n : ℕ). rising n (marked marks)) (add-one t) ∙ rising_yes (marked marks) t h in
        record {
          counted = rw (e, l.counted) (sym (length-append w (t ∷ [])));
          laid = rw (e, l.laid, l.counted) (entries_more proposal_entries w t few);
        }
