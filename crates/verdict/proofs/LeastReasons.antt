-- The reasons on a cycle: its members place by place, the least reason that was offered for each, and that it is the first of all that fit.
use mathlib.Core.Path.{◌≡◌, refl, sym, ap, ap₂, subst, ◌∙◌}
use mathlib.Core.Bool.{Bool, true, false}
use mathlib.Core.Logic.{◌⊎◌, inl, inr, ⊎_elim}
use mathlib.Core.List.{List, [], ◌∷◌, map}
use Prim.Native.Nat.{ℕ, zero, suc, ◌+◌, ◌*◌, ◌/◌, ◌%◌, ◌≤◌, ◌<◌}
use native.Mathlib.Omega.{arith}
use native.Mathlib.Nat.{le_of_eq}
use lib.ListN.{length, get_or, set, replicate, length-set, length-replicate, get_or-replicate, get_or-eq_default}
use lib.Seq.{get_or-set_same, get_or-set_other}
use Rattle.words.specs.Tests.{◌is◌, ◌below◌, ◌and◌, ◌or◌, provided◌then◌else◌, some}
use Rattle.words.specs.Lists.{member, distinct}
use Rattle.words.proofs.Truth.{decide, not_both, to_false, same_test, and→, →and, or→, →or_left, →or_right, or_no, and_no_left, →fails, is→, →is, isnt→, →isnt, below→, not_below→, provided_true, provided_false, none→, lowest_is}
use Rattle.words.proofs.Places.{member_head, member_tail, all→, distinct→}
use Rattle.graph.specs.Cycle.{leads, is_cycle}
use Rattle.verdict.specs.Limits.{transactions, objects}
use Rattle.verdict.specs.Dependency.{some_dependency}
use Rattle.verdict.specs.Reason.{Entry, first_object, first_kind, leading, leading_on, with_reasons}
use Rattle.verdict.specs.Inner.Reasons.{reason_number, no_reason, number_if, entry_of, numbered, Ring, follower, Before, Least, Best, offered, edge_on, with_edge}

-- THE MEMBERS OF A CYCLE, PLACE BY PLACE
member_at : (c : List ℕ) (i : ℕ) → i < length c → member (get_or c i 0) c ≡ true
member_at [] i h = absurd (omega arith)
member_at (a ∷ c) zero h = member_head a c
member_at (a ∷ c) (suc i) h = member_tail (get_or c i 0) a c (member_at c i (omega arith))

places_differ : (c : List ℕ) → distinct c ≡ true → (i j : ℕ) → i < length c → j < length c → get_or c i 0 ≡ get_or c j 0 → i ≡ j
places_differ [] d i j h k e = absurd (omega arith)
places_differ (a ∷ c) d zero zero h k e = refl
places_differ (a ∷ c) d zero (suc j) h k e = absurd (not_both (rw (← e) at (member_at c j (omega arith))) (distinct→ a c d).0)
places_differ (a ∷ c) d (suc i) zero h k e = absurd (not_both (rw e at (member_at c i (omega arith))) (distinct→ a c d).0)
places_differ (a ∷ c) d (suc i) (suc j) h k e = ap suc (places_differ c (distinct→ a c d).1 i j (omega arith) (omega arith) e)

module _ (edge : ℕ → ℕ → Bool) where
  leads_at : (home : ℕ) (c : List ℕ) → leads edge home c ≡ true → (i : ℕ) → i < length c → edge (get_or c i 0) (get_or c (suc i) home) ≡ true
  unfolding leads
  leads_at home [] l i h = absurd (omega arith)
  leads_at home (a ∷ []) l zero h = l
  leads_at home (a ∷ []) l (suc i) h = absurd (omega arith)
  leads_at home (a ∷ b ∷ c) l zero h = (and→ l).0
  leads_at home (a ∷ b ∷ c) l (suc i) h = leads_at home (b ∷ c) (and→ l).1 i (omega arith)

  -- an edge leads from each member to its follower
  pub edge_at : (c : List ℕ) → is_cycle edge c ≡ true → (i : ℕ) → i < length c → edge (get_or c i 0) (follower c i) ≡ true
  unfolding is_cycle follower
  edge_at [] y i h = absurd (omega arith)
  edge_at (a ∷ c) y i h = leads_at a (a ∷ c) (and→ y).1 i h

  -- where the edges leave transactions, it is a ring of them
  pub cycle_ring : ((a b : ℕ) → edge a b ≡ true → (1 ≤ a) × (a ≤ transactions)) → (c : List ℕ) → is_cycle edge c ≡ true → Ring c
  cycle_ring ends c y =
      record {
        any = some_member c y;
        low = λ i h. (ends _ _ (edge_at c y i h)).0;
        high = λ i h. (ends _ _ (edge_at c y i h)).1;
        differ = places_differ c (each_once c y);
      }
    where
      some_member : (c : List ℕ) → is_cycle edge c ≡ true → 1 ≤ length c
      some_member [] y = unfold is_cycle in absurd (not_both y refl)
      some_member (a ∷ c) y = omega arith

      each_once : (c : List ℕ) → is_cycle edge c ≡ true → distinct c ≡ true
      each_once [] y = unfold is_cycle in absurd (not_both y refl)
      each_once (a ∷ c) y =
          unfold is_cycle distinct in
          let r = and→ (and→ y).0 in
          →and (→fails (to_false _ (λ m. let l : a < a = below→ (all→ _ c (and→ r.0).1 a m) in omega arith))) r.1

-- what is given for places behind the last does not matter before them
pub same_default : (c : List ℕ) (d i : ℕ) → i < length c → get_or c i d ≡ get_or c i 0
same_default [] d i h = absurd (omega arith)
same_default (a ∷ c) d zero h = refl
same_default (a ∷ c) d (suc i) h = same_default c d i (omega arith)

-- the follower is a member
pub follower_place : (c : List ℕ) → Ring c → (i : ℕ) → i < length c → (j : ℕ) × (j < length c) × (follower c i ≡ get_or c j 0)
unfolding follower
follower_place c r i h =
    ⊎_elim (λ k. (suc i, below→ k, same_default c (get_or c 0 0) (suc i) (below→ k))) (λ k. (0, r.any, get_or-eq_default c (get_or c 0 0) (not_below→ k))) (decide (suc i below length c))

pub follower_low : (c : List ℕ) → Ring c → (i : ℕ) → i < length c → 1 ≤ follower c i
follower_low c r i h = let p = follower_place c r i h in rw p.2 (r.low p.0 p.1)

-- THE LEAST REASON
pub least_none : {on : ℕ → ℕ → Bool} → ((x k : ℕ) → on x k ≡ false) → Least on no_reason
least_none f = record { one = inl refl; least = λ x k h. absurd (not_both h (f x k)) }

pub least_same : {on other : ℕ → ℕ → Bool} {e : ℕ} → Least on e → ((x k : ℕ) → other x k ≡ on x k) → Least other e
least_same l f =
    record {
      one = ⊎_elim (λ z. inl z) (λ r. inr (r.0, r.1, r.2, r.3, f r.0 r.1 ∙ r.4)) l.one;
      least = λ x k h. l.least x k (sym (f x k) ∙ h);
    }

-- one more is offered, if it fits
module _ {on other : ℕ → ℕ → Bool} {e : ℕ} (l : Least on e) (fits : Bool) (y m : ℕ) (m_low : m < 4) (more : (x k : ℕ) → other x k ≡ (on x k or (fits and y is x and m is k))) where
  lower : number_if fits y m < e → Least other (number_if fits y m)
  unfolding number_if
  lower h = go (decide fits)
    where
      go : (fits ≡ true) ⊎ (fits ≡ false) → Least other (number_if fits y m)
      go (inl t) =
          rw (provided_true (reason_number y m) no_reason t)
          (record {
            one = inr (y, m, m_low, refl, more y m ∙ →or_right _ (→and (→and t (→is refl)) (→is refl)));
            least = λ x k q. ⊎_elim
                (λ o. let a : e ≤ reason_number x k = l.least x k o in let b : reason_number y m < e = rw (provided_true (reason_number y m) no_reason t) at h in omega arith)
                (λ o. let u : y ≡ x = is→ (and→ (and→ o).0).1 in let v : m ≡ k = is→ (and→ o).1 in le_of_eq (ap₂ reason_number u v))
                (or→ (sym (more x k) ∙ q));
          })
      go (inr f) =
          let b : no_reason < e = rw (provided_false (reason_number y m) no_reason f) at h in
          rw (provided_false (reason_number y m) no_reason f)
          (record {
            one = inl refl;
            least = λ x k q. ⊎_elim (λ o. let a : e ≤ reason_number x k = l.least x k o in omega arith) (λ o. absurd (not_both (and→ (and→ o).0).0 f)) (or→ (sym (more x k) ∙ q));
          })

  not_lower : e ≤ number_if fits y m → Least other e
  unfolding number_if
  not_lower h =
      record {
        one = ⊎_elim (λ z. inl z) (λ r. inr (r.0, r.1, r.2, r.3, more r.0 r.1 ∙ →or_left _ r.4)) l.one;
        least = λ x k q. ⊎_elim (l.least x k)
            (λ o. let u : y ≡ x = is→ (and→ (and→ o).0).1 in
            let v : m ≡ k = is→ (and→ o).1 in
            let t : fits ≡ true = (and→ (and→ o).0).0 in
            let b : e ≤ reason_number y m = rw (provided_true (reason_number y m) no_reason t) at h in
            rw (← u, ← v) b)
            (or→ (sym (more x k) ∙ q));
      }

-- OF EACH MEMBER
pub offered_length : (table : List ℕ) (a e : ℕ) → length (offered table a e) ≡ length table
unfolding offered
offered_length table a e =
    ⊎_elim (λ t. ap length (provided_true (set table a e) table t) ∙ length-set table a e) (λ t. ap length (provided_false (set table a e) table t)) (decide (e below get_or table a 0))

module _ {c : List ℕ} where
  pub best_none : {on : ℕ → ℕ → ℕ → ℕ → Bool} → Ring c → ((a b x k : ℕ) → on a b x k ≡ false) → Best c on (replicate (suc transactions) no_reason)
  best_none {on} r f =
      record {
        size = length-replicate {A = ℕ} (suc transactions) no_reason;
        each = λ i h. rw (get_or-replicate (suc transactions) (get_or c i 0) no_reason 0 (omega (arith, r.high i h))) (least_none (f (get_or c i 0) (follower c i)));
      }

  pub best_same : {on other : ℕ → ℕ → ℕ → ℕ → Bool} {table : List ℕ} → Best c on table → ((i : ℕ) → i < length c → (x k : ℕ) → other (get_or c i 0) (follower c i) x k ≡ on (get_or c i 0) (follower c i) x k)
      → Best c other table
  best_same b f = record { size = b.size; each = λ i h. least_same (b.each i h) (f i h) }

  -- a reason is offered for a, if it fits
  pub best_more : {on other : ℕ → ℕ → ℕ → ℕ → Bool} {table : List ℕ} → Best c on table → (a : ℕ) → a ≤ transactions → (fits : Bool) (y m : ℕ) → m < 4
      → ((i : ℕ) → i < length c → (x k : ℕ) → other (get_or c i 0) (follower c i) x k ≡ (on (get_or c i 0) (follower c i) x k or (a is get_or c i 0 and (fits and y is x and m is k))))
      → Best c other (offered table a (number_if fits y m))
  unfolding offered
  best_more {on} {other} {table} b a high fits y m m_low more = go (decide (number_if fits y m below get_or table a 0))
    where
      n : ℕ
      n = number_if fits y m

      at_a : (i : ℕ) → i < length c → a ≡ get_or c i 0 → (x k : ℕ) → other (get_or c i 0) (follower c i) x k ≡ (on (get_or c i 0) (follower c i) x k or (fits and y is x and m is k))
      at_a i h e x k = more i h x k ∙ ap (λ (z : Bool). on (get_or c i 0) (follower c i) x k or z) (same_test (λ q. (and→ q).1) (λ q. →and (→is e) q))

      elsewhere : (i : ℕ) → i < length c → (a ≡ get_or c i 0 → ⊥) → (x k : ℕ) → other (get_or c i 0) (follower c i) x k ≡ on (get_or c i 0) (follower c i) x k
      elsewhere i h e x k = more i h x k ∙ or_no _ (and_no_left _ (→isnt e))

      go : ((n below get_or table a 0) ≡ true) ⊎ ((n below get_or table a 0) ≡ false) → Best c other (provided n below get_or table a 0 then set table a n else table)
      go (inl t) =
          rw (provided_true (set table a n) table t)
          (record {
            size = length-set table a n ∙ b.size;
            each = λ i h. ⊎_elim
                (λ q. let e : a ≡ get_or c i 0 = is→ q in
                let v : get_or (set table a n) (get_or c i 0) 0 ≡ n = ap (λ (u : ℕ). get_or (set table a n) u 0) (sym e) ∙ get_or-set_same table a n 0 (omega (arith, b.size)) in
                subst (Least (other (get_or c i 0) (follower c i))) (sym v) (lower (b.each i h) fits y m m_low (at_a i h e) (subst (λ (u : ℕ). n < get_or table u 0) e (below→ t))))
                (λ q. let e : a ≡ get_or c i 0 → ⊥ = isnt→ q in
                rw (get_or-set_other table a (get_or c i 0) n 0 (λ z. e (sym z))) (least_same (b.each i h) (elsewhere i h e)))
                (decide (a is get_or c i 0));
          })
      go (inr t) =
          rw (provided_false (set table a n) table t)
          (record {
            size = b.size;
            each = λ i h. ⊎_elim
                (λ q. let e : a ≡ get_or c i 0 = is→ q in not_lower (b.each i h) fits y m m_low (at_a i h e) (subst (λ (u : ℕ). get_or table u 0 ≤ n) e (not_below→ t)))
                (λ q. least_same (b.each i h) (elsewhere i h (isnt→ q)))
                (decide (a is get_or c i 0));
          })

  -- the edge from s to t leads from a member to its follower only where s stands before t
  edge_before : {before : List ℕ} → Before c before → (s t y m : ℕ) → t ≤ transactions → (i : ℕ) → i < length c → (x k : ℕ) → edge_on s t y m (get_or c i 0) (follower c i) x k ≡ true → get_or before t 0 ≡ s
  unfolding edge_on
  edge_before p s t y m t_high i h x k q =
      let v = and→ (and→ (and→ q).0).0 in
      is→ (p.stands i t h t_high ∙ v.1) ∙ sym (is→ v.0)

  -- where it does, it is offered
  pub edge_offered : {before table : List ℕ} {on : ℕ → ℕ → ℕ → ℕ → Bool} → Before c before → Best c on table → (s t y m : ℕ) → s ≤ transactions → t ≤ transactions → m < 4 → get_or before t 0 ≡ s
      → Best c (with_edge on s t y m) (offered table s (reason_number y m))
  unfolding with_edge edge_on number_if
  edge_offered {before} {table} {on} p b s t y m s_high t_high m_low f =
      rw (provided_true (reason_number y m) no_reason refl) at
      (best_more {other = with_edge on s t y m} b s s_high true y m m_low (λ i h x k. ap (λ (z : Bool). on (get_or c i 0) (follower c i) x k or z) (same_test (there i x k) (back i h x k))))
    where
      there : (i x k : ℕ) → (s is get_or c i 0 and t is follower c i and y is x and m is k) ≡ true → (s is get_or c i 0 and (true and y is x and m is k)) ≡ true
      there i x k q =
          let r = and→ q in
          let u = and→ r.0 in
          →and (and→ u.0).0 (→and (→and refl u.1) r.1)

      back : (i : ℕ) → i < length c → (x k : ℕ) → (s is get_or c i 0 and (true and y is x and m is k)) ≡ true → (s is get_or c i 0 and t is follower c i and y is x and m is k) ≡ true
      back i h x k q =
          let r = and→ q in
          let u = and→ r.1 in
          →and (→and (→and r.0 (sym (p.stands i t h t_high) ∙ →is (f ∙ is→ r.0))) (and→ u.0).1) u.1

  -- where it does not, nothing changes
  pub edge_passed : {before table : List ℕ} {on : ℕ → ℕ → ℕ → ℕ → Bool} → Before c before → Best c on table → (s t y m : ℕ) → t ≤ transactions → (get_or before t 0 ≡ s → ⊥) → Best c (with_edge on s t y m) table
  unfolding with_edge
  edge_passed p b s t y m t_high n = best_same b (λ i h x k. or_no _ (to_false _ (λ q. n (edge_before p s t y m t_high i h x k q))))

-- THE LEAST IS THE FIRST THAT FITS
module _ (on : ℕ → ℕ → Bool) (any : some_dependency on ≡ true) where
  the_object : (first_object on < objects) × (some 4 (λ k. on (first_object on) k) ≡ true) × ((x : ℕ) → x < first_object on → some 4 (λ k. on x k) ≡ false)
  unfolding first_object some_dependency
  the_object = lowest_is _ any

  the_kind : (first_kind on < 4) × (on (first_object on) (first_kind on) ≡ true) × ((k : ℕ) → k < first_kind on → on (first_object on) k ≡ false)
  unfolding first_kind
  the_kind = lowest_is _ the_object.1

  first_reason : {e : ℕ} → Least on e → e ≡ reason_number (first_object on) (first_kind on)
  unfolding reason_number
  first_reason {e} l = ⊎_elim none given l.one
    where
      high : e ≤ 4 * first_object on + first_kind on
      high = l.least (first_object on) (first_kind on) the_kind.1

      none : e ≡ no_reason → e ≡ 4 * first_object on + first_kind on
      none z = let a : first_object on < objects = the_object.0 in let b : first_kind on < 4 = the_kind.0 in absurd (omega (arith, high))

      given : ((x : ℕ) × (k : ℕ) × (k < 4) × (e ≡ 4 * x + k) × (on x k ≡ true)) → e ≡ 4 * first_object on + first_kind on
      given r =
          let x : ℕ = r.0 in
          let k : ℕ = r.1 in
          let k_low : k < 4 = r.2 in
          let e_is : e ≡ 4 * x + k = r.3 in
          let b : first_kind on < 4 = the_kind.0 in
          let x_high : x < first_object on → ⊥ = λ (h : x < first_object on). not_both r.4 (none→ _ (the_object.2 x h) k k_low) in
          let same : x ≡ first_object on = omega (arith, high) in
          let k_high : k < first_kind on → ⊥ = λ (h : k < first_kind on). not_both (rw same at r.4) (the_kind.2 k h) in
          omega (arith, high)

  -- .. so its number says it
  pub reason_said : {e : ℕ} → Least on e → (e % 4 ≡ first_kind on) × (e / 4 ≡ first_object on)
  unfolding reason_number
  reason_said {e} l =
      let s : e ≡ 4 * first_object on + first_kind on = first_reason l in
      let k : first_kind on < 4 = the_kind.0 in
      (omega arith, omega arith)

-- the members with the reasons that the numbers say are the cycle with its reasons
module _ (on : ℕ → ℕ → ℕ → ℕ → Bool) (numbers : List ℕ) where
  led : (home : ℕ) (c : List ℕ) → ((i : ℕ) → i < length c → entry_of numbers (get_or c i 0) ≡ leading on (get_or c i 0) (get_or c (suc i) home)) → map (entry_of numbers) c ≡ leading_on on home c
  unfolding leading_on
  led home [] f = refl
  led home (a ∷ []) f = ap (λ (e : Entry). e ∷ []) (f 0 (omega arith))
  led home (a ∷ b ∷ c) f = ap₂ (λ (e : Entry) (w : List Entry). e ∷ w) (f 0 (omega arith)) (led home (b ∷ c) (λ i h. f (suc i) (omega arith)))

  pub numbered_reasons : (c : List ℕ) → Best c on numbers → ((i : ℕ) → i < length c → some_dependency (on (get_or c i 0) (follower c i)) ≡ true) → numbered numbers c ≡ with_reasons on c
  unfolding numbered with_reasons follower
  numbered_reasons [] b f = refl
  numbered_reasons (a ∷ c) b f = led a (a ∷ c) (λ i h. said i h)
    where
      said : (i : ℕ) → i < length (a ∷ c) → entry_of numbers (get_or (a ∷ c) i 0) ≡ leading on (get_or (a ∷ c) i 0) (get_or (a ∷ c) (suc i) a)
      said i h =
          unfold entry_of leading in
          let t : ℕ = get_or (a ∷ c) i 0 in
          let u : ℕ = get_or (a ∷ c) (suc i) a in
          let r = reason_said (on t u) (f i h) (b.each i h) in
          ap₂ (λ (k x : ℕ). record { transaction = t; kind = k; object = x }) r.0 r.1
