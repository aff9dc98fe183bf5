-- The exact search, one placement at a time: who may follow, what is placed then, and what is found behind it.
use mathlib.Core.Path.{◌≡◌, refl, sym, ap, ◌∙◌}
use mathlib.Core.Bool.{true, false, false≢true}
use mathlib.Core.Logic.{◌⊎◌, inl, inr, ⊎_elim}
use mathlib.Core.List.{List, [], ◌∷◌, ◌++◌, append-nil, append_assoc}
use Prim.Native.Nat.{ℕ, suc, ◌+◌, ◌*◌, ◌≤◌, ◌<◌}
use native.Mathlib.Omega.{arith}
use lib.ListN.{length, get_or, set, take}
use Rattle.words.specs.Tests.{◌is◌, ◌below◌, ◌and◌, fails, some, every, count, lowest}
use Rattle.words.specs.Lists.{member}
use Rattle.words.specs.First.{dictionary, Never}
use Rattle.words.proofs.Truth.{decide, not_both, to_false, to_true, same_test, and→, and_true_right, and_no_right, fails→, →fails, not_fails→, →not_fails, is→, isnt→, below→, not_below→, every→, →every, some→, count_same, count_without, count_none, none_counted, none→}
use Rattle.words.proofs.Places.{member→, member_head, member_left, member_right, member_either}
use Rattle.bits.specs.Word.{marked, less}
use Rattle.bits.proofs.Marks.{marked_less}
use Rattle.verdict.specs.Limits.{transactions, objects}
use Rattle.verdict.specs.Log.{steps, committed}
use Rattle.verdict.specs.Replay.{explains_loosely}
use Rattle.verdict.specs.Inner.Placing.{allows, may_follow, need, ran, placed_of, OneMore, LastAfter, Searchable, Placed, Searched, found, missed}
use Rattle.verdict.specs.declared.search.Run.{Run}
use Rattle.verdict.proofs.WellFormed.{Well, well_formed}
use Rattle.verdict.proofs.Versions.{committed_range}
use Rattle.verdict.proofs.Loosely.{take_next, goes_on, placed_more, never_placed, not_all, all_placed, first_head, no_head, Tried, tried_below}

-- another one than t is placed as before
member_one : (a t : ℕ) (p : List ℕ) → (a ≡ t → ⊥) → member a (p ++ t ∷ []) ≡ member a p
member_one a t p n =
    same_test (λ e. ⊎_elim (λ l. l) (λ (l : member a (t ∷ []) ≡ true). ⊎_elim (λ (z : a ≡ t). absurd (n z)) (λ (z : member a [] ≡ true). absurd (false≢true (unfold member in z))) (member→ a t [] l)) (member_either a p (t ∷ []) e))
    (λ e. member_left a p (t ∷ []) e)

-- one more is placed behind the others
pub behind_placed : {i : ℕ} {run next : Run} → OneMore i run next → (t : ℕ) (order p : List ℕ) → run.at < length order → placed_of run order ≡ p → placed_of next (set order run.at t) ≡ p ++ t ∷ []
behind_placed {run = run} one t order p h e = rw (one.more, ← e) (take_next order run.at t h)

-- where none is found, the array says nothing
pub missed_all : {log p : List ℕ} {n : ℕ} {order other : List ℕ} → Searched log p n false order → Searched log p n false other
missed_all (missed g) = missed g

module _ {log table writes ones asks : List ℕ} {n : ℕ} (known : Searchable log table writes ones asks n) where
  well : Well transactions log
  well = well_formed log known.passed

  -- who is on the list is a transaction
  pub on_list : (i : ℕ) → i < n → get_or ones i 0 ≤ transactions
  on_list i h = (committed_range log well _ (known.list.each i h)).1

  -- two places of the list have two transactions
  apart : (i k : ℕ) → i < n → k < n → (k is i) ≡ false → get_or ones k 0 ≡ get_or ones i 0 → ⊥
  apart i k h l q e =
      let z : k ≡ i → ⊥ = isnt→ q in
      ⊎_elim (λ (b : (i below k) ≡ true). omega (arith, known.list.rising i k (below→ b) l))
      (λ (b : (i below k) ≡ false). omega (arith, known.list.rising k i (omega (arith, not_below→ b)) h)) (decide (i below k))

  module _ {run : Run} {p last : List ℕ} (placed : Placed log ones n run p last) where
    -- nothing starts but what is left on the list
    pub tried_none : Tried log p ones run.free run.free
    tried_none = record { part = λ k m. m; never = λ d f v. to_false _ (λ k. starts d v k f) }
      where
        starts : (d : ℕ) (v : List ℕ) → explains_loosely transactions log (p ++ d ∷ v) ≡ true → ((k : ℕ) → marked run.free k ≡ true → get_or ones k 0 ≡ d → ⊥) → ⊥
        starts d v k f =
            let g = goes_on log well _ _ placed.so_far d v k in
            let r = known.list.every_one d g.0 in
            f r.0 (placed.left r.0 r.1 ∙ →fails (rw r.2 g.1)) r.2

    -- all have had their turn: what is placed is an order, or nothing is
    pub search_over : {rest : ℕ} {order : List ℕ} → Tried log p ones run.free rest → some 64 (marked rest) ≡ false → placed_of run order ≡ p → Searched log p n (run.at is n) order
    search_over {rest} {order} tried none begins = go (decide (run.at is n))
      where
        -- where no mark is left all are placed
        none_left : count n (marked run.free) ≡ 0 → (t : ℕ) → t ≤ transactions → committed log t ≡ true → member t p ≡ true
        none_left z t h c =
            let r = known.list.every_one t c in
            rw r.2 at (not_fails→ (sym (placed.left r.0 r.1) ∙ none_counted n (marked run.free) z r.0 r.1))

        -- where one is left, what is placed does not explain
        one_left : (run.at ≡ n → ⊥) → (some n (marked run.free) ≡ true) ⊎ (some n (marked run.free) ≡ false) → explains_loosely transactions log (p ++ []) ≡ false
        one_left z (inl k) =
            let r = some→ k in
            not_all log well _ _ placed.so_far (get_or ones r.0 0) (known.list.each r.0 r.1) (fails→ (sym (placed.left r.0 r.1) ∙ r.2))
        one_left z (inr k) = absurd (z (omega (arith, placed.fills, count_none n (marked run.free) k)))

        go : ((run.at is n) ≡ true) ⊎ ((run.at is n) ≡ false) → Searched log p n (run.at is n) order
        go (inl q) =
            let e : run.at ≡ n = is→ q in
            rw q
            (found []
            (record { one = all_placed log well _ _ placed.so_far known.clean (none_left (omega (arith, placed.fills))); none_earlier = λ v h. unfold dictionary in refl })
            (ap (λ (k : ℕ). take k order) (sym e) ∙ begins ∙ sym (append-nil p)))
        go (inr q) =
            rw q
            (missed (no_head (λ v. explains_loosely transactions log (p ++ v)) (one_left (isnt→ q) (decide (some n (marked run.free)))) (λ a. tried.never a (λ k m e. not_both m (none→ (marked rest) none k (omega (arith, known.few, placed.within k (tried.part k m))))))))

    -- the one at place i, which is left
    module _ (i : ℕ) (free : marked run.free i ≡ true) where
      h : i < n
      h = placed.within i free

      finding : (x : ℕ) → x < objects → allows (get_or table (get_or ones i 0 * objects + x) 0) (get_or last x 0) ≡ allows (need log (get_or ones i 0) x (steps log)) (ran log x 0 p)
      finding x k = rw (known.needs.entry (get_or ones i 0) x (known.list.each i h) (on_list i h) k, placed.so_far.writers x k) refl

      -- it would not find what it needs
      pub not_next : may_follow table ones last i ≡ false → Never (λ v. explains_loosely transactions log (p ++ get_or ones i 0 ∷ v))
      unfolding may_follow
      not_next f v =
          to_false _
          (λ e. let r = goes_on log well _ _ placed.so_far (get_or ones i 0) v e in
          not_both (→every _ (λ x k. finding x k ∙ to_true _ (λ q. not_both e (never_placed log well _ _ placed.so_far (get_or ones i 0) r.0 r.1 x q v)))) f)

      module _ (f : may_follow table ones last i ≡ true) where
        -- it finds what it needs
        follows : every objects (λ x. allows (get_or table (get_or ones i 0 * objects + x) 0) (get_or last x 0)) ≡ true
        unfolding may_follow
        follows = f

        not_yet : member (get_or ones i 0) p ≡ false
        not_yet = fails→ (sym (placed.left i h) ∙ free)

        one_fewer : suc (count n (marked (less run.free i))) ≡ count n (marked run.free)
        one_fewer =
            ap suc (count_same n (marked (less run.free i)) (λ k. marked run.free k and fails (k is i)) (λ k l. marked_less run.free i k))
            ∙ count_without n (marked run.free) i h free

        -- there is room for it
        pub room : run.at < n
        room = omega (arith, placed.fills, one_fewer)

        -- it is placed
        pub one_placed : {next : Run} {after : List ℕ} → OneMore i run next → LastAfter writes (get_or ones i 0) last after → Placed log ones n next (p ++ get_or ones i 0 ∷ []) after
        one_placed {after = after} one wrote = record {
          so_far =
              (placed_more log well _ _ placed.so_far (get_or ones i 0) (known.list.each i h) not_yet (λ x k. sym (finding x k) ∙ every→ _ follows x k) after wrote.size
              (λ x k. wrote.each x k ∙ rw (known.written.mark (get_or ones i 0) x (on_list i h) k) refl));
          left = λ k l. rw one.taken (marked_less run.free i k ∙ stays k l (decide (k is i)));
          within = λ k m. placed.within k (and→ (sym (marked_less run.free i k) ∙ (rw one.taken at m))).0;
          fills = rw one.taken (omega (arith, one.more, placed.fills, one_fewer));
        }
          where
            stays : (k : ℕ) → k < n → ((k is i) ≡ true) ⊎ ((k is i) ≡ false) → (marked run.free k and fails (k is i)) ≡ fails (member (get_or ones k 0) (p ++ get_or ones i 0 ∷ []))
            stays k l (inl q) =
                let e : k ≡ i = is→ q in
                and_no_right _ (→not_fails q) ∙ sym (→not_fails (rw e (member_right (get_or ones i 0) p (get_or ones i 0 ∷ []) (member_head (get_or ones i 0) []))))
            stays k l (inr q) = and_true_right _ (→fails q) ∙ placed.left k l ∙ sym (ap fails (member_one (get_or ones k 0) (get_or ones i 0) p (apart i k h l q)))

        -- what is found behind it is found, and what is missed is missed
        pub search_found : {full : List ℕ} {rest : ℕ} → Tried log p ones run.free rest → i ≡ lowest 64 (marked rest) → Searched log (p ++ get_or ones i 0 ∷ []) n true full → Searched log p n true full
        search_found tried first (found u g e) =
            found (get_or ones i 0 ∷ u)
            (first_head (λ v. explains_loosely transactions log (p ++ v)) (not_all log well _ _ placed.so_far (get_or ones i 0) (known.list.each i h) not_yet) (get_or ones i 0) u (tried_below log tried i known.list placed.within first)
            (record { one = rw (append_assoc p (get_or ones i 0 ∷ []) u) at g.one; none_earlier = λ v k. g.none_earlier v (rw (append_assoc p (get_or ones i 0 ∷ []) v) k) }))
            (e ∙ append_assoc p (get_or ones i 0 ∷ []) u)

        pub search_missed : {full : List ℕ} → Searched log (p ++ get_or ones i 0 ∷ []) n false full → Never (λ v. explains_loosely transactions log (p ++ get_or ones i 0 ∷ v))
        search_missed (missed g) v = rw (append_assoc p (get_or ones i 0 ∷ []) v) at (g v)
