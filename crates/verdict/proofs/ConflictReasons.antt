-- The reasons on a cycle of the conflict graph: those that end at each step, by those that touched its object before.
use mathlib.Core.Path.{◌≡◌, refl, sym, ap, subst, ◌∙◌}
use mathlib.Core.Bool.{Bool, true, false}
use mathlib.Core.Logic.{inl, inr, ⊎_elim}
use mathlib.Core.List.{List}
use Prim.Native.Nat.{ℕ, suc, ◌≤◌, ◌<◌}
use native.Mathlib.Omega.{arith}
use lib.ListN.{length, get_or}
use Rattle.words.specs.Tests.{◌is◌, ◌and◌, ◌or◌, some}
use Rattle.words.proofs.Truth.{not_both, same_test, and→, →and, and_no_left, and_no_right, or→, →or_left, →or_right, or_no, or_assoc, is→, →is, →isnt, some→, →some}
use Rattle.graph.specs.Matrix.{in_row}
use Rattle.verdict.specs.Limits.{transactions, objects}
use Rattle.verdict.specs.Log.{steps, kind, tx, obj, committed}
use Rattle.verdict.specs.Conflict.{meet, conflict_on}
use Rattle.verdict.specs.Inner.ConflictEdges.{touched_row, touched_by, Touched}
use Rattle.verdict.specs.Inner.Reasons.{number_if, Ring, follower, Before, Best, offered}
use Rattle.verdict.specs.Inner.ConflictReasons.{meets_earlier, with_earlier, conflict_until}
use Rattle.verdict.proofs.LeastReasons.{best_same, best_more, follower_place}

-- WHAT IS OFFERED FOR s AT A STEP OF KIND l ON y
module _ {c table : List ℕ} {on : ℕ → ℕ → ℕ → ℕ → Bool} (ring : Ring c) (best : Best c on table) (rows : List ℕ) (y : ℕ) where
  -- nobody stands before
  pub nobody_offered : (s l : ℕ) → s ≡ 0 → Best c (with_earlier on rows s l y) table
  unfolding with_earlier
  nobody_offered s l e =
      best_same best (λ i h x k. or_no _ (and_no_left _ (and_no_left _ (→isnt (λ (z : s ≡ get_or c i 0). let low : 1 ≤ get_or c i 0 = ring.low i h in omega arith)))))

  -- a step that neither reads nor writes
  pub neither_offered : (s l : ℕ) → (l ≡ 2 → ⊥) → (l ≡ 3 → ⊥) → Best c (with_earlier on rows s l y) table
  unfolding with_earlier meets_earlier
  neither_offered s l r w =
      best_same best (λ i h x k. or_no _ (and_no_right _ (or_no _ (and_no_left _ (and_no_right _ (→isnt w))) ∙ or_no _ (and_no_left _ (and_no_right _ (→isnt r))) ∙ and_no_left _ (and_no_right _ (→isnt w)))))

  module _ (s : ℕ) (high : s ≤ transactions) where
    pub read_earlier : {l : ℕ} → l ≡ 2 → {touched : Bool} → touched ≡ in_row rows (touched_row 3 y) s → {n : ℕ} → n ≡ number_if touched y 2 → {table' : List ℕ} → table' ≡ offered table s n
        → Best c (with_earlier on rows s l y) table'
    unfolding with_earlier meets_earlier
    read_earlier {l} e {touched} t p q =
        rw (q, p) (best_more best s high touched y 2 (omega arith) (λ i h x k. ap (λ (z : Bool). on (get_or c i 0) (follower c i) x k or z) (same_test (there (get_or c i 0) x k) (back (get_or c i 0) x k))))
      where
        there : (a x k : ℕ) → (s is a and y is x and (k is 1 and l is 3 and in_row rows (touched_row 3 y) s or k is 2 and l is 2 and in_row rows (touched_row 3 y) s or k is 3 and l is 3 and in_row rows (touched_row 2 y) s)) ≡ true
            → (s is a and (touched and y is x and 2 is k)) ≡ true
        there a x k q =
            let r = and→ q in
            let m = and→ r.0 in
            let no : (l is 3) ≡ true → ⊥ = λ (w : (l is 3) ≡ true). let z : l ≡ 3 = is→ w in omega arith in
            →and m.0 (⊎_elim (λ o. ⊎_elim (λ p. absurd (no (and→ (and→ p).0).1)) (λ p. →and (→and (t ∙ (and→ p).1) m.1) (→is (sym (is→ (and→ (and→ p).0).0)))) (or→ o)) (λ o. absurd (no (and→ (and→ o).0).1)) (or→ r.1))

        back : (a x k : ℕ) → (s is a and (touched and y is x and 2 is k)) ≡ true
            → (s is a and y is x and (k is 1 and l is 3 and in_row rows (touched_row 3 y) s or k is 2 and l is 2 and in_row rows (touched_row 3 y) s or k is 3 and l is 3 and in_row rows (touched_row 2 y) s)) ≡ true
        back a x k q =
            let r = and→ q in
            let m = and→ r.1 in
            let n = and→ m.0 in
            →and (→and r.0 n.1) (→or_left _ (→or_right _ (→and (→and (→is (sym (is→ m.1))) (→is e)) (sym t ∙ n.0))))

    pub write_earlier : {l : ℕ} → l ≡ 3 → {wrote read : Bool} → wrote ≡ in_row rows (touched_row 3 y) s → read ≡ in_row rows (touched_row 2 y) s
        → {m n : ℕ} → m ≡ number_if wrote y 1 → n ≡ number_if read y 3 → {table' table'' : List ℕ} → table' ≡ offered table s m → table'' ≡ offered table' s n → Best c (with_earlier on rows s l y) table''
    unfolding with_earlier meets_earlier
    write_earlier {l} e {wrote} {read} w r p q f g =
        rw (g, f, p, q) (best_more
        (best_more {other = λ a b x k. on a b x k or (s is a and (wrote and y is x and 1 is k))} best s high wrote y 1 (omega arith) (λ i h x k. refl))
        s high read y 3 (omega arith)
        (λ i h x k. ap (λ (z : Bool). on (get_or c i 0) (follower c i) x k or z) (same_test (there (get_or c i 0) x k) (back (get_or c i 0) x k)) ∙ or_assoc _ _ _))
      where
        there : (a x k : ℕ) → (s is a and y is x and (k is 1 and l is 3 and in_row rows (touched_row 3 y) s or k is 2 and l is 2 and in_row rows (touched_row 3 y) s or k is 3 and l is 3 and in_row rows (touched_row 2 y) s)) ≡ true
            → ((s is a and (wrote and y is x and 1 is k)) or (s is a and (read and y is x and 3 is k))) ≡ true
        there a x k q =
            let p = and→ q in
            let m = and→ p.0 in
            let no : (l is 2) ≡ true → ⊥ = λ (v : (l is 2) ≡ true). let z : l ≡ 2 = is→ v in omega arith in
            ⊎_elim
            (λ o. ⊎_elim (λ u. →or_left _ (→and m.0 (→and (→and (w ∙ (and→ u).1) m.1) (→is (sym (is→ (and→ (and→ u).0).0)))))) (λ u. absurd (no (and→ (and→ u).0).1)) (or→ o))
            (λ u. →or_right _ (→and m.0 (→and (→and (r ∙ (and→ u).1) m.1) (→is (sym (is→ (and→ (and→ u).0).0)))))) (or→ p.1)

        back : (a x k : ℕ) → ((s is a and (wrote and y is x and 1 is k)) or (s is a and (read and y is x and 3 is k))) ≡ true
            → (s is a and y is x and (k is 1 and l is 3 and in_row rows (touched_row 3 y) s or k is 2 and l is 2 and in_row rows (touched_row 3 y) s or k is 3 and l is 3 and in_row rows (touched_row 2 y) s)) ≡ true
        back a x k q =
            ⊎_elim
            (λ o. let p = and→ o in let m = and→ p.1 in let n = and→ m.0 in
            →and (→and p.0 n.1) (→or_left _ (→or_left _ (→and (→and (→is (sym (is→ m.1))) (→is e)) (sym w ∙ n.0)))))
            (λ o. let p = and→ o in let m = and→ p.1 in let n = and→ m.0 in
            →and (→and p.0 n.1) (→or_right _ (→and (→and (→is (sym (is→ m.1))) (→is e)) (sym r ∙ n.0)))) (or→ q)

-- THE REASONS WHOSE LATER STEP IS j
module _ (log : List ℕ) {c table before : List ℕ} (place : Before c before) (all_committed : (i : ℕ) → i < length c → committed log (get_or c i 0) ≡ true) (j : ℕ)
    (in_range : tx log j ≤ transactions) where
  -- a step of a transaction that did not commit is no member's, and ends none
  pub ends_nothing : Ring c → committed log (tx log j) ≡ false → Best c (conflict_until log j) table → Best c (conflict_until log (suc j)) table
  unfolding conflict_until some
  ends_nothing ring n b =
      best_same b (λ i h x k. or_no _ (and_no_left _ (→isnt (λ (e : tx log j ≡ follower c i).
      let p = follower_place c ring i h in
      not_both (all_committed p.0 p.1) (subst (λ (t : ℕ). committed log t ≡ false) (e ∙ p.2) n)))))

  module _ {rows : List ℕ} (touched : Touched log j rows) (x_low : obj log j < objects) where
    pub ends_offered : {u l y : ℕ} → u ≡ tx log j → l ≡ kind log j → y ≡ obj log j → Best c (with_earlier (conflict_until log j) rows (get_or before u 0) l y) table
        → Best c (conflict_until log (suc j)) table
    unfolding conflict_until some with_earlier meets_earlier meet touched_by
    ends_offered is_tx is_kind is_obj b = best_same (rw (is_tx, is_kind, is_obj) at b) (λ i h x k. ap (λ (z : Bool). conflict_until log j (get_or c i 0) (follower c i) x k or z) (same_test (there i h x k) (back i h x k)))
      where
        writers : (a : ℕ) → in_row rows (touched_row 3 (obj log j)) a ≡ some j (touched_by log 3 (obj log j) a)
        writers a = touched.mark 3 (obj log j) a (inr refl) x_low

        readers : (a : ℕ) → in_row rows (touched_row 2 (obj log j)) a ≡ some j (touched_by log 2 (obj log j) a)
        readers a = touched.mark 2 (obj log j) a (inl refl) x_low

        there : (i : ℕ) → i < length c → (x k : ℕ) → (tx log j is follower c i and some j (λ u. tx log u is get_or c i 0 and meet log x k u j)) ≡ true
            → (get_or before (tx log j) 0 is get_or c i 0 and obj log j is x and meets_earlier rows (kind log j) (obj log j) (get_or before (tx log j) 0) k) ≡ true
        there i h x k q =
            let r = and→ q in
            let a : ℕ = get_or c i 0 in
            let sa : get_or before (tx log j) 0 ≡ a = is→ (place.stands i (tx log j) h in_range ∙ r.0) in
            let v = some→ {n = j} {p = λ u. tx log u is get_or c i 0 and meet log x k u j} r.1 in
            let u : ℕ = v.0 in
            let w = and→ v.2 in
            let e : tx log u ≡ a = is→ w.0 in
            let m = and→ w.1 in
            let o = and→ m.0 in
            let g : obj log j ≡ x = is→ o.1 in
            let f : obj log u ≡ obj log j = is→ o.0 ∙ sym g in
            let done : committed log (tx log u) ≡ true = rw e (all_committed i h) in
            let row : (n : ℕ) → (kind log u is n) ≡ true → some j (touched_by log n (obj log j) (get_or before (tx log j) 0)) ≡ true = λ (n : ℕ) (z : (kind log u is n) ≡ true). →some _ u v.1 (→and (→and (→and done z) (→is f)) (→is (e ∙ sym sa))) in
            →and (→and (→is sa) o.1)
            (⊎_elim
            (λ t. ⊎_elim
            (λ p. let d = and→ p in →or_left _ (→or_left _ (→and (→and (and→ d.0).0 d.1) (writers _ ∙ row 3 (and→ d.0).1))))
            (λ p. let d = and→ p in →or_left _ (→or_right _ (→and (→and (and→ d.0).0 d.1) (writers _ ∙ row 3 (and→ d.0).1)))) (or→ t))
            (λ p. let d = and→ p in →or_right _ (→and (→and (and→ d.0).0 d.1) (readers _ ∙ row 2 (and→ d.0).1))) (or→ m.1))

        back : (i : ℕ) → i < length c → (x k : ℕ) → (get_or before (tx log j) 0 is get_or c i 0 and obj log j is x and meets_earlier rows (kind log j) (obj log j) (get_or before (tx log j) 0) k) ≡ true
            → (tx log j is follower c i and some j (λ u. tx log u is get_or c i 0 and meet log x k u j)) ≡ true
        back i h x k q =
            let r = and→ q in
            let a : ℕ = get_or c i 0 in
            let p = and→ r.0 in
            let sa : get_or before (tx log j) 0 ≡ a = is→ p.0 in
            let g : obj log j ≡ x = is→ p.1 in
            let earlier : (n : ℕ) → some j (touched_by log n (obj log j) (get_or before (tx log j) 0)) ≡ true
            → (u : ℕ) × (u < j) × ((tx log u is a) ≡ true) × ((obj log u is x) ≡ true) × ((kind log u is n) ≡ true) = λ (n : ℕ) (z : some j (touched_by log n (obj log j) (get_or before (tx log j) 0)) ≡ true).
            let v = some→ z in let d = and→ v.2 in let t = and→ d.0 in (v.0, v.1, →is (is→ d.1 ∙ sa), →is (is→ t.1 ∙ g), (and→ t.0).1) in
            →and (sym (place.stands i (tx log j) h in_range) ∙ p.0)
            (⊎_elim
            (λ t. ⊎_elim
            (λ o. let d = and→ o in let v = earlier 3 (sym (writers _) ∙ d.1) in →some _ v.0 v.1 (→and v.2 (→and (→and v.3 p.1) (→or_left _ (→or_left _ (→and (→and (and→ d.0).0 v.4) (and→ d.0).1))))))
            (λ o. let d = and→ o in let v = earlier 3 (sym (writers _) ∙ d.1) in →some _ v.0 v.1 (→and v.2 (→and (→and v.3 p.1) (→or_left _ (→or_right _ (→and (→and (and→ d.0).0 v.4) (and→ d.0).1)))))) (or→ t))
            (λ o. let d = and→ o in let v = earlier 2 (sym (readers _) ∙ d.1) in →some _ v.0 v.1 (→and v.2 (→and (→and v.3 p.1) (→or_right _ (→and (→and (and→ d.0).0 v.4) (and→ d.0).1))))) (or→ r.1))

-- all of them are the graph's
pub all_conflict_reasons : (log : List ℕ) {c table : List ℕ} → Best c (conflict_until log (steps log)) table → Best c (conflict_on log) table
unfolding conflict_until conflict_on
all_conflict_reasons log b = b
