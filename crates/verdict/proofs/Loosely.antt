-- Loose replay, one placement at a time: what a placed beginning finds, when one more may be placed, and when all are.
use mathlib.Core.Path.{◌≡◌, refl, sym, ap, subst, ◌∙◌}
use mathlib.Core.Bool.{Bool, true, false, false≢true}
use mathlib.Core.Logic.{◌⊎◌, inl, inr, ⊎_elim}
use mathlib.Core.List.{List, [], ◌∷◌, ◌++◌, append-nil}
use Prim.Native.Nat.{ℕ, zero, suc, ◌+◌, ◌-◌, ◌≤◌, ◌<◌}
use native.Mathlib.Omega.{arith}
use native.Mathlib.Numerals.{add-one}
use lib.ListN.{length, get_or, set, take}
use lib.Seq.{take-suc-set}
use Rattle.words.specs.Tests.{◌is◌, ◌below◌, ◌and◌, ◌or◌, ◌implies◌, provided◌then◌else◌, every, lowest}
use Rattle.words.specs.Lists.{member, distinct}
use Rattle.words.specs.First.{dictionary, First, Never}
use Rattle.graph.specs.Order.{once_each}
use Rattle.words.proofs.Truth.{decide, not_both, to_false, and→, →and, and_true_right, and_no_left, and_no_right, →or_left, →or_right, or_false, →fails, implies→, →implies, is→, →is, isnt→, →isnt, below→, →below, not_below→, provided_true, provided_false, every→, →every, below_lowest}
use Rattle.words.proofs.Places.{member→, member_head, member_tail, all→, →all, distinct→, member_right, member_either}
use Rattle.words.proofs.Dictionary.{dictionary_not}
use Rattle.bits.specs.Word.{marked, less}
use Rattle.bits.proofs.Marks.{marked_less}
use Rattle.bits.proofs.Walks.{unturned}
use Rattle.verdict.specs.Limits.{transactions, objects}
use Rattle.verdict.specs.Log.{steps, tx, obj, src, committed, writer}
use Rattle.verdict.specs.Clean.{judged, judged_other, is_clean}
use Rattle.verdict.specs.Replay.{finds, reads_right, serial, explains_loosely}
use Rattle.verdict.specs.Inner.Placing.{barred, needing, allows, needs_source, need, ran, CommittedList, Replayed}
use Rattle.verdict.proofs.WellFormed.{Well}
use Rattle.verdict.proofs.Versions.{committed_range}
use Rattle.verdict.proofs.JudgedReads.{is_read}

implies_true : {a b : Bool} → a ≡ true → (a implies b) ≡ b
unfolding ◌implies◌
implies_true {a = true} {b} h = refl
implies_true {a = false} {b} h = absurd (false≢true h)

-- NEEDS
-- one more source allows what was allowed and is that source
pub needing_allows : (e s v : ℕ) → s ≤ transactions → v ≤ transactions → allows (needing e s) v ≡ (allows e v and v is s)
unfolding needing allows barred
needing_allows e s v p q = go (decide (e is 0)) (decide (e is suc s)) (decide (v is s))
  where
    go : ((e is 0) ≡ true) ⊎ ((e is 0) ≡ false) → ((e is suc s) ≡ true) ⊎ ((e is suc s) ≡ false) → ((v is s) ≡ true) ⊎ ((v is s) ≡ false)
        → ((provided e is 0 then suc s else provided e is suc s then e else 255) is 0 or (provided e is 0 then suc s else provided e is suc s then e else 255) is suc v) ≡ ((e is 0 or e is suc v) and v is s)
    go (inl z) b (inl c) =
        rw (provided_true (suc s) (provided e is suc s then e else 255) z) (→or_right _ (→is (ap suc (sym (is→ c)))) ∙ sym (→and (→or_left _ z) c))
    go (inl z) b (inr c) =
        rw (provided_true (suc s) (provided e is suc s then e else 255) z)
        (or_false (→isnt (λ (k : suc s ≡ 0). omega arith)) ∙ →isnt (λ (k : suc s ≡ suc v). isnt→ c (omega arith)) ∙ sym (and_no_right _ c))
    go (inr z) (inl b) (inl c) =
        let k : (e is suc v) ≡ true = →is (is→ b ∙ ap suc (sym (is→ c))) in
        rw (provided_false (suc s) (provided e is suc s then e else 255) z, provided_true e 255 b) (→or_right _ k ∙ sym (→and (→or_right _ k) c))
    go (inr z) (inl b) (inr c) =
        let w : e ≡ suc s = is→ b in
        let n : e ≡ suc v → ⊥ = λ (k : e ≡ suc v). isnt→ c (omega arith) in
        rw (provided_false (suc s) (provided e is suc s then e else 255) z, provided_true e 255 b) (or_false z ∙ →isnt n ∙ sym (and_no_right _ c))
    go (inr z) (inr b) c =
        rw (provided_false (suc s) (provided e is suc s then e else 255) z, provided_false e 255 b)
        (or_false (→isnt (λ (k : ◌≡◌ {A = ℕ} 255 0). omega arith)) ∙ →isnt (λ (k : 255 ≡ suc v). omega arith) ∙ sym (neither c))
      where
        neither : ((v is s) ≡ true) ⊎ ((v is s) ≡ false) → ((e is 0 or e is suc v) and v is s) ≡ false
        neither (inr k) = and_no_right _ k
        neither (inl k) = and_no_left _ (or_false z ∙ →isnt (λ (w : e ≡ suc v). isnt→ b (w ∙ ap suc (is→ k))))

-- what a need allows, from the tests that decide it
module _ {e : ℕ} (v : ℕ) where
  pub allows_any : e ≡ 0 → allows e v ≡ true
  unfolding allows
  allows_any z = →or_left _ (→is z)

  pub allows_it : (e ≡ 0 → ⊥) → e - 1 ≡ v → allows e v ≡ true
  unfolding allows
  allows_it n h = →or_right _ (→is (omega arith))

  pub allows_not : (e ≡ 0 → ⊥) → (e - 1 ≡ v → ⊥) → allows e v ≡ false
  unfolding allows
  allows_not n h = or_false (→isnt n) ∙ →isnt (λ (k : e ≡ suc v). h (omega arith))

module _ (log : List ℕ) (t x : ℕ) where
  pub need_more : (i : ℕ) → needs_source log t x i ≡ true → need log t x (i + 1) ≡ needing (need log t x i) (src log i)
  unfolding need
  need_more i h = rw (add-one i) (provided_true _ _ h)

  pub need_same : (i : ℕ) → needs_source log t x i ≡ false → need log t x (i + 1) ≡ need log t x i
  unfolding need
  need_same i h = rw (add-one i) (provided_false _ _ h)

  -- the need allows just the sources that every such read names
  pub need_allows : (n v : ℕ) → ((i : ℕ) → i < n → needs_source log t x i ≡ true → src log i ≤ transactions) → v ≤ transactions → allows (need log t x n) v ≡ every n (λ i. needs_source log t x i implies v is src log i)
  unfolding need every
  need_allows zero v f h = unfold allows in (→or_left _ (→is refl))
  need_allows (suc n) v f h = go (decide (needs_source log t x n)) (need_allows n v (λ (i : ℕ) (l : i < n). f i (omega arith)) h)
    where
      go : (needs_source log t x n ≡ true) ⊎ (needs_source log t x n ≡ false) → allows (need log t x n) v ≡ every n (λ i. needs_source log t x i implies v is src log i)
          → allows (provided needs_source log t x n then needing (need log t x n) (src log n) else need log t x n) v ≡ (every n (λ i. needs_source log t x i implies v is src log i) and (needs_source log t x n implies v is src log n))
      go (inl k) rec =
          rw (provided_true (needing (need log t x n) (src log n)) (need log t x n) k)
          (needing_allows (need log t x n) (src log n) v (f n (omega arith) k) h ∙ ap (λ (b : Bool). b and v is src log n) rec ∙ ap (λ (b : Bool). every n (λ i. needs_source log t x i implies v is src log i) and b) (sym (implies_true k)))
      go (inr k) rec =
          rw (provided_false (needing (need log t x n) (src log n)) (need log t x n) k)
          (rec ∙ sym (and_true_right _ (→implies (λ q. absurd (not_both q k)))))

  -- whether step i makes t need a source of x, from the answers to the questions that decide it
  module _ (i : ℕ) where
    pub needs_none_unjudged : judged_other log i ≡ false → needs_source log t x i ≡ false
    unfolding needs_source
    needs_none_unjudged j = and_no_left _ (and_no_left _ j)

    pub needs_none_other : (tx log i ≡ t → ⊥) → needs_source log t x i ≡ false
    unfolding needs_source
    needs_none_other n = and_no_left _ (and_no_right _ (→isnt n))

    pub needs_none_elsewhere : (obj log i ≡ x → ⊥) → needs_source log t x i ≡ false
    unfolding needs_source
    needs_none_elsewhere n = and_no_right _ (→isnt n)

    pub needs_judged : judged_other log i ≡ true → tx log i ≡ t → obj log i ≡ x → needs_source log t x i ≡ true
    unfolding needs_source
    needs_judged j e f = →and (→and j (→is e)) (→is f)

-- WHAT A BEGINNING FINDS
module _ (log : List ℕ) (x : ℕ) where
  -- of what stands in the beginning itself
  pub finds_in : (r v : ℕ) (p u : List ℕ) → member r p ≡ true → finds log x r v (p ++ u) ≡ finds log x r v p
  unfolding finds member
  finds_in r v [] u m = absurd (false≢true m)
  finds_in r v (t ∷ p) u m = go (decide (t is r)) (member→ r t p m) (λ k. finds_in r (provided writer log x t then t else v) p u k)
    where
      go : ((t is r) ≡ true) ⊎ ((t is r) ≡ false) → (r ≡ t) ⊎ (member r p ≡ true) → (member r p ≡ true → finds log x r (provided writer log x t then t else v) (p ++ u) ≡ finds log x r (provided writer log x t then t else v) p)
          → (provided t is r then v else finds log x r (provided writer log x t then t else v) (p ++ u)) ≡ (provided t is r then v else finds log x r (provided writer log x t then t else v) p)
      go (inl e) c rec = provided_true _ _ e ∙ sym (provided_true _ _ e)
      go (inr e) (inl c) rec = absurd (isnt→ e (sym c))
      go (inr e) (inr c) rec = provided_false _ _ e ∙ rec c ∙ sym (provided_false _ _ e)

  -- of what comes right behind it
  pub finds_behind : (r v : ℕ) (p u : List ℕ) → member r p ≡ false → finds log x r v (p ++ r ∷ u) ≡ ran log x v p
  unfolding finds ran
  finds_behind r v [] u m = provided_true _ _ (→is refl)
  finds_behind r v (t ∷ p) u m =
      provided_false _ _ (→isnt (λ (e : t ≡ r). not_both (subst (λ (z : ℕ). member z (t ∷ p) ≡ true) e (member_head t p)) m))
      ∙ finds_behind r (provided writer log x t then t else v) p u (to_false _ (λ k. not_both (member_tail r t p k) m))

  pub ran_more : (v t : ℕ) (p : List ℕ) → ran log x v (p ++ t ∷ []) ≡ (provided writer log x t then t else ran log x v p)
  unfolding ran
  ran_more v t [] = refl
  ran_more v t (a ∷ p) = ran_more (provided writer log x a then a else v) t p

  -- it is v, or one of the beginning
  pub ran_bound : (n v : ℕ) (p : List ℕ) → v ≤ n → ((a : ℕ) → member a p ≡ true → a ≤ n) → ran log x v p ≤ n
  unfolding ran
  ran_bound n v [] h f = h
  ran_bound n v (t ∷ p) h f =
      ran_bound n (provided writer log x t then t else v) p
      (⊎_elim (λ (k : writer log x t ≡ true). rw (provided_true t v k) (f t (member_head t p))) (λ (k : writer log x t ≡ false). rw (provided_false t v k) h) (decide (writer log x t)))
      (λ a m. f a (member_tail a t p m))

-- LISTS WITH ONE MORE AT THE END
-- what stands behind a beginning of different numbers is not in it
pub distinct_behind : (t : ℕ) (p u : List ℕ) → distinct (p ++ t ∷ u) ≡ true → member t p ≡ false
distinct_behind t p u d = to_false _ (λ m. go p m d)
  where
    go : (p : List ℕ) → member t p ≡ true → distinct (p ++ t ∷ u) ≡ true → ⊥
    go [] m d = false≢true (unfold member in m)
    go (a ∷ p) m d =
        let r = distinct→ a (p ++ t ∷ u) d in
        ⊎_elim (λ (e : t ≡ a). not_both (subst (λ (z : ℕ). member z (p ++ t ∷ u) ≡ true) e (member_right t p (t ∷ u) (member_head t u))) r.0) (λ k. go p k r.1) (member→ t a p m)

pub distinct_more : (t : ℕ) (p : List ℕ) → distinct p ≡ true → member t p ≡ false → distinct (p ++ t ∷ []) ≡ true
unfolding distinct
distinct_more t [] d m = →and (→fails (unfold member in refl)) refl
distinct_more t (a ∷ p) d m =
    let r = distinct→ a p d in
    →and (→fails (to_false _ (λ k. ⊎_elim (λ l. not_both l r.0) (λ (l : member a (t ∷ []) ≡ true). last l) (member_either a p (t ∷ []) k))))
    (distinct_more t p r.1 (to_false _ (λ k. not_both (member_tail t a p k) m)))
  where
    last : member a (t ∷ []) ≡ true → ⊥
    last l = ⊎_elim (λ (e : a ≡ t). not_both (subst (λ (z : ℕ). member z (a ∷ p) ≡ true) e (member_head a p)) m) (λ (k : member a [] ≡ true). false≢true (unfold member in k)) (member→ a t [] l)

-- PLACING ONE MORE
module _ (log : List ℕ) (well : Well transactions log) where
  needs→ : (t x i : ℕ) → needs_source log t x i ≡ true → (judged_other log i ≡ true) × (tx log i ≡ t) × (obj log i ≡ x)
  unfolding needs_source
  needs→ t x i k = let r = and→ (and→ k).0 in (r.0, is→ r.1, is→ (and→ k).1)

  pub source_range : (t x i : ℕ) → i < steps log → needs_source log t x i ≡ true → src log i ≤ transactions
  source_range t x i h k = well.sources i h (is_read log i (needs→ t x i k).0)

  reads_its_source : (w : List ℕ) → explains_loosely transactions log w ≡ true → (i : ℕ) → i < steps log → judged_other log i ≡ true → finds log (obj log i) (tx log i) 0 w ≡ src log i
  unfolding explains_loosely reads_right
  reads_its_source w h i l j = is→ (implies→ (every→ _ (and→ h).1 i l) j)

  serial_of : (w : List ℕ) → explains_loosely transactions log w ≡ true
      → (distinct w ≡ true) × ((a : ℕ) → member a w ≡ true → committed log a ≡ true) × ((t : ℕ) → t ≤ transactions → committed log t ≡ true → member t w ≡ true)
  unfolding explains_loosely serial once_each
  serial_of w h =
      let s = and→ (and→ (and→ h).0).1 in
      let r = and→ s.0 in
      (r.0, λ a m. (and→ (all→ _ w r.1 a m)).1, λ (t : ℕ) (l : t ≤ transactions) c. implies→ (every→ _ s.1 t (omega arith)) c)

  module _ (p last : List ℕ) (placed : Replayed log p last) where
    bound : (x : ℕ) → ran log x 0 p ≤ transactions
    bound x = ran_bound log x transactions 0 p (omega arith) (λ a m. (committed_range log well a (all→ _ p placed.members a m)).1)

    allowed : (t x : ℕ) → allows (need log t x (steps log)) (ran log x 0 p) ≡ every (steps log) (λ i. needs_source log t x i implies ran log x 0 p is src log i)
    allowed t x = need_allows log t x (steps log) (ran log x 0 p) (source_range t x) (bound x)

    -- t is left: committed, and not placed yet
    module _ (t : ℕ) (c : committed log t ≡ true) (n : member t p ≡ false) where
      right_more : ((x : ℕ) → x < objects → allows (need log t x (steps log)) (ran log x 0 p) ≡ true) → (i : ℕ) → i < steps log → judged_other log i ≡ true
          → member (tx log i) (p ++ t ∷ []) ≡ true → finds log (obj log i) (tx log i) 0 (p ++ t ∷ []) ≡ src log i
      right_more f i h j m = ⊎_elim old (λ (k : member (tx log i) (t ∷ []) ≡ true). ⊎_elim new (λ (l : member (tx log i) [] ≡ true). absurd (false≢true (unfold member in l))) (member→ (tx log i) t [] k)) (member_either (tx log i) p (t ∷ []) m)
        where
          old : member (tx log i) p ≡ true → finds log (obj log i) (tx log i) 0 (p ++ t ∷ []) ≡ src log i
          old k = finds_in log (obj log i) (tx log i) 0 p (t ∷ []) k ∙ placed.right i h j k

          new : tx log i ≡ t → finds log (obj log i) (tx log i) 0 (p ++ t ∷ []) ≡ src log i
          new e =
              let x : ℕ = obj log i in
              let a : needs_source log t x i ≡ true = unfold needs_source in (→and (→and j (→is e)) (→is refl)) in
              let q = implies→ (every→ _ (sym (allowed t x) ∙ f x (well.object i h (inl (is_read log i j)))) i h) a in
              subst (λ (r : ℕ). finds log x r 0 (p ++ t ∷ []) ≡ src log i) (sym e) (finds_behind log x t 0 p [] n ∙ is→ q)

      pub placed_more : ((x : ℕ) → x < objects → allows (need log t x (steps log)) (ran log x 0 p) ≡ true) → (last' : List ℕ) → length last' ≡ length last
          → ((x : ℕ) → x < objects → get_or last' x 0 ≡ (provided writer log x t then t else get_or last x 0)) → Replayed log (p ++ t ∷ []) last'
      placed_more f last' s w =
          record {
            different = distinct_more t p placed.different n;
            members = →all _ (p ++ t ∷ []) (λ a k. ⊎_elim (λ l. all→ _ p placed.members a l) (λ (l : member a (t ∷ []) ≡ true). ⊎_elim (λ (e : a ≡ t). rw e c) (λ (z : member a [] ≡ true). absurd (false≢true (unfold member in z))) (member→ a t [] l)) (member_either a p (t ∷ []) k));
            right = right_more f;
            size = s ∙ placed.size;
            writers = λ x h. w x h ∙ ap (λ (v : ℕ). provided writer log x t then t else v) (placed.writers x h) ∙ sym (ran_more log x 0 t p);
          }

      -- a need that does not allow what t would find bars every order that goes on with t
      pub never_placed : (x : ℕ) → allows (need log t x (steps log)) (ran log x 0 p) ≡ false → Never (λ u. explains_loosely transactions log (p ++ t ∷ u))
      never_placed x f u = to_false _ (λ h. not_both (→every _ (λ i l. →implies (λ a. →is (names h i l a)))) (sym (allowed t x) ∙ f))
        where
          names : explains_loosely transactions log (p ++ t ∷ u) ≡ true → (i : ℕ) → i < steps log → needs_source log t x i ≡ true → ran log x 0 p ≡ src log i
          names h i l a =
              let q = needs→ t x i a in
              let r : finds log (obj log i) (tx log i) 0 (p ++ t ∷ u) ≡ src log i = reads_its_source (p ++ t ∷ u) h i l q.0 in
              sym (finds_behind log x t 0 p u n)
              ∙ subst (λ (y : ℕ). finds log y t 0 (p ++ t ∷ u) ≡ src log i) q.2 (subst (λ (y : ℕ). finds log (obj log i) y 0 (p ++ t ∷ u) ≡ src log i) q.1 r)

    -- what goes on behind p is left
    pub goes_on : (a : ℕ) (u : List ℕ) → explains_loosely transactions log (p ++ a ∷ u) ≡ true → (committed log a ≡ true) × (member a p ≡ false)
    goes_on a u h = let s = serial_of (p ++ a ∷ u) h in (s.1 a (member_right a p (a ∷ u) (member_head a u)), distinct_behind a p u s.0)

    -- p alone does not explain while one is left, and does when none is
    pub not_all : (t : ℕ) → committed log t ≡ true → member t p ≡ false → explains_loosely transactions log (p ++ []) ≡ false
    not_all t c n = to_false _ (λ h. not_both (rw append-nil at ((serial_of (p ++ []) h).2 t (committed_range log well t c).1 c)) n)

    pub all_placed : is_clean log ≡ true → ((t : ℕ) → t ≤ transactions → committed log t ≡ true → member t p ≡ true) → explains_loosely transactions log (p ++ []) ≡ true
    unfolding explains_loosely serial once_each reads_right
    all_placed cl f =
        rw append-nil
        (→and (→and cl (→and (→and placed.different (→all _ p (λ a m. let c = all→ _ p placed.members a m in let z : a ≤ transactions = (committed_range log well a c).1 in →and (→below (omega arith)) c)))
        (→every _ (λ (t : ℕ) (h : t < suc transactions). →implies (λ c. f t (omega arith) c)))))
        (→every _ (λ i h. →implies (λ j. →is (placed.right i h j (f (tx log i) (well.range i h).1 (reader i j)))))))
      where
        reader : (i : ℕ) → judged_other log i ≡ true → committed log (tx log i) ≡ true
        reader i j = unfold judged_other judged in (and→ (and→ j).0).1

-- the first entries of an array with one more stored behind them
pub take_next : (placed : List ℕ) (at t : ℕ) → at < length placed → take (at + 1) (set placed at t) ≡ take at placed ++ t ∷ []
take_next placed at t h = rw (add-one at) (take-suc-set placed at t h)

-- THE FIRST LIST THAT PASSES, BY ITS HEAD
module _ (passes : List ℕ → Bool) (not_empty : passes [] ≡ false) where
  pub first_head : (t : ℕ) (u : List ℕ) → ((a : ℕ) → a < t → Never (λ v. passes (a ∷ v))) → First dictionary (λ v. passes (t ∷ v)) u → First dictionary passes (t ∷ u)
  first_head t u f g = record { one = g.one; none_earlier = earlier }
    where
      earlier : (v : List ℕ) → passes v ≡ true → dictionary v (t ∷ u) ≡ false
      earlier [] h = absurd (not_both h not_empty)
      earlier (a ∷ v) h =
          dictionary_not a t v u
          (⊎_elim (λ (k : (a below t) ≡ true). absurd (not_both h (f a (below→ k) v))) (λ (k : (a below t) ≡ false). not_below→ k) (decide (a below t)))
          (λ (e : a ≡ t). g.none_earlier v (rw e at h))

  pub no_head : ((a : ℕ) (v : List ℕ) → passes (a ∷ v) ≡ false) → Never passes
  no_head f [] = not_empty
  no_head f (a ∷ v) = f a v

-- THE LIST OF THE COMMITTED ONES
-- nothing goes on behind p but what the rest of the list has: some of its places that are free
pub record Tried (log p ones : List ℕ) (free rest : ℕ) : Type 0 where
  pub part : (k : ℕ) → marked rest k ≡ true → marked free k ≡ true
  pub never : (d : ℕ) → ((k : ℕ) → marked rest k ≡ true → get_or ones k 0 ≡ d → ⊥) → Never (λ v. explains_loosely transactions log (p ++ d ∷ v))

module _ (log : List ℕ) {p ones : List ℕ} {free rest : ℕ} (tried : Tried log p ones free rest) (i : ℕ) where
  -- nor does the one at i
  pub tried_more : Never (λ v. explains_loosely transactions log (p ++ get_or ones i 0 ∷ v)) → Tried log p ones free (less rest i)
  tried_more h = record { part = λ k m. tried.part k (and→ (sym (marked_less rest i k) ∙ m)).0; never = λ d f. go d f (decide (get_or ones i 0 is d)) }
    where
      go : (d : ℕ) → ((k : ℕ) → marked (less rest i) k ≡ true → get_or ones k 0 ≡ d → ⊥) → ((get_or ones i 0 is d) ≡ true) ⊎ ((get_or ones i 0 is d) ≡ false) → Never (λ v. explains_loosely transactions log (p ++ d ∷ v))
      go d f (inl e) = let z : get_or ones i 0 ≡ d = is→ e in subst (λ (a : ℕ). Never (λ v. explains_loosely transactions log (p ++ a ∷ v))) z h
      go d f (inr e) = tried.never d (λ k m q. ⊎_elim (λ (b : (k is i) ≡ true). let z : k ≡ i = is→ b in isnt→ e (rw z at q)) (λ (b : (k is i) ≡ false). f k (unturned rest i k b ∙ m) q) (decide (k is i)))

  -- none that is lower than the one at i goes on, where i is the first place of the rest
  pub tried_below : {n : ℕ} → CommittedList log ones n → ((k : ℕ) → marked free k ≡ true → k < n) → i ≡ lowest 64 (marked rest) → (a : ℕ) → a < get_or ones i 0 → Never (λ v. explains_loosely transactions log (p ++ a ∷ v))
  tried_below {n} list within first a h = tried.never a later
    where
      later : (k : ℕ) → marked rest k ≡ true → get_or ones k 0 ≡ a → ⊥
      later k m q =
          ⊎_elim (λ (e : (i below k) ≡ true). omega (arith, list.rising i k (below→ e) (within k (tried.part k m))))
          (λ (e : (i below k) ≡ false). ⊎_elim (λ (b : (k below i) ≡ true). not_both m (below_lowest 64 (marked rest) k (omega (arith, below→ b))))
          (λ (b : (k below i) ≡ false). let z : k ≡ i = omega (arith, not_below→ e, not_below→ b) in let w : get_or ones i 0 ≡ a = rw z at q in omega arith) (decide (k below i))) (decide (i below k))
