-- The conflict graph: those that touched an object so far, the edges that end at a step, and that all of them are the edges of the graph.
use mathlib.Core.Path.{◌≡◌, refl, sym, ap, ap₂, ◌∙◌}
use mathlib.Core.Bool.{Bool, true, false}
use mathlib.Core.Logic.{◌⊎◌, inl, inr, ⊎_elim}
use mathlib.Core.List.{List}
use Prim.Native.Nat.{ℕ, suc, ◌+◌, ◌≤◌, ◌<◌}
use native.Mathlib.Omega.{arith}
use native.Mathlib.Numerals.{add-one}
use lib.ListN.{replicate, length-replicate}
use Rattle.words.specs.Tests.{◌is◌, ◌upto◌, ◌and◌, ◌or◌, some}
use Rattle.graph.specs.Matrix.{row_words, takes_part, in_row, Joins}
use Rattle.graph.proofs.TwoWords.{no_member}
use Rattle.graph.proofs.RowLaws.{no_rows}
use Rattle.words.proofs.Truth.{decide, not_both, same_test, and→, →and, and_true, and_no_left, and_no_right, or→, →or_left, →or_right, or_no, →fails, fails→, isnt→, is→, →is, →isnt, →upto, provided_true, provided_false, some→, →some, →none, some_next, some_skip}
use Rattle.verdict.specs.Limits.{transactions, objects}
use Rattle.verdict.specs.Log.{steps, kind, tx, obj, committed}
use Rattle.verdict.specs.Conflict.{conflict_edge}
use Rattle.verdict.specs.Inner.ConflictEdges.{touched_row, earlier_touch, Touches, touched_by, Touched, touches, meet_somehow, plain_conflict, conflict_pair, conflicts_until}
use Rattle.verdict.specs.Inner.Edges.{Pair, one_edge, Drawn}
use Rattle.verdict.proofs.WellFormed.{Well}
use Rattle.verdict.proofs.Versions.{not_zero}
use Rattle.verdict.proofs.Dependencies.{plain_conflict_edge}
use Rattle.verdict.proofs.Matrices.{Kept, →kept, one_edge→, →one_edge, same_edges, set_more, Between}

-- WHICH ROW IS TOUCHED
reader_row : (x : ℕ) → touched_row 2 x ≡ suc x
unfolding touched_row
reader_row x = provided_true _ _ (→is refl)

writer_row : (x : ℕ) → touched_row 3 x ≡ suc (x + objects)
unfolding touched_row
writer_row x = provided_false _ _ (→isnt (λ (e : ◌≡◌ {A = ℕ} 3 2). omega arith)) ∙ provided_true _ _ (→is refl)

pub row_range : (k x : ℕ) → (k ≡ 2) ⊎ (k ≡ 3) → x < objects → (1 ≤ touched_row k x) × (touched_row k x ≤ transactions)
row_range k x w h =
    ⊎_elim (λ (e : k ≡ 2). rw (e, reader_row x) (omega arith, omega arith)) (λ (e : k ≡ 3). rw (e, writer_row x) (omega arith, omega arith)) w

-- a row tells the kind and the object
row_tells : (k x l y : ℕ) → (k ≡ 2) ⊎ (k ≡ 3) → x < objects → y < objects → touched_row k x ≡ touched_row l y → (k ≡ l) × (x ≡ y)
row_tells k x l y w h g e = go w (decide (l is 2)) (decide (l is 3))
  where
    none : (l is 2) ≡ false → (l is 3) ≡ false → touched_row l y ≡ 0
    none p q = unfold touched_row in (provided_false _ _ p ∙ provided_false _ _ q)

    go : (k ≡ 2) ⊎ (k ≡ 3) → ((l is 2) ≡ true) ⊎ ((l is 2) ≡ false) → ((l is 3) ≡ true) ⊎ ((l is 3) ≡ false) → (k ≡ l) × (x ≡ y)
    go (inl a) (inl b) c = let p : l ≡ 2 = is→ b in let r : suc x ≡ suc y = sym (reader_row x) ∙ ap (λ (n : ℕ). touched_row n x) (sym a) ∙ e ∙ ap (λ (n : ℕ). touched_row n y) p ∙ reader_row y in (a ∙ sym p, omega arith)
    go (inl a) (inr b) (inl c) = let p : l ≡ 3 = is→ c in let r : suc x ≡ suc (y + objects) = sym (reader_row x) ∙ ap (λ (n : ℕ). touched_row n x) (sym a) ∙ e ∙ ap (λ (n : ℕ). touched_row n y) p ∙ writer_row y in absurd (omega arith)
    go (inr a) (inl b) c = let p : l ≡ 2 = is→ b in let r : suc (x + objects) ≡ suc y = sym (writer_row x) ∙ ap (λ (n : ℕ). touched_row n x) (sym a) ∙ e ∙ ap (λ (n : ℕ). touched_row n y) p ∙ reader_row y in absurd (omega arith)
    go (inr a) (inr b) (inl c) = let p : l ≡ 3 = is→ c in let r : suc (x + objects) ≡ suc (y + objects) = sym (writer_row x) ∙ ap (λ (n : ℕ). touched_row n x) (sym a) ∙ e ∙ ap (λ (n : ℕ). touched_row n y) p ∙ writer_row y in (a ∙ sym p, omega arith)
    go w (inr b) (inr c) = let r : 1 ≤ touched_row k x = (row_range k x w h).0 in let z : touched_row k x ≡ 0 = e ∙ none b c in absurd (omega arith)

-- WHOSE EARLIER STEPS A STEP OF KIND k ON x MEETS
module _ (rows : List ℕ) (k x : ℕ) where
  pub before_read : k ≡ 2 → (writers : List ℕ) → ((a : ℕ) → takes_part transactions writers a ≡ in_row rows (touched_row 3 x) a) → (a : ℕ) → takes_part transactions writers a ≡ earlier_touch rows k x a
  unfolding earlier_touch
  before_read e writers w a = w a ∙ sym (or_no _ (and_no_left _ (→isnt (λ (z : k ≡ 3). omega arith))) ∙ and_true (→or_left _ (→is e)))

  pub before_write : k ≡ 3 → (writers readers both : List ℕ) → ((a : ℕ) → takes_part transactions writers a ≡ in_row rows (touched_row 3 x) a) → ((a : ℕ) → takes_part transactions readers a ≡ in_row rows (touched_row 2 x) a)
      → ((a : ℕ) → takes_part transactions both a ≡ (takes_part transactions writers a or takes_part transactions readers a)) → (a : ℕ) → takes_part transactions both a ≡ earlier_touch rows k x a
  unfolding earlier_touch
  before_write e writers readers both w r b a = b a ∙ ap₂ ◌or◌ (w a ∙ sym (and_true (→or_right _ (→is e)))) (r a ∙ sym (and_true (→is e)))

  pub before_none : (k ≡ 2 → ⊥) → (k ≡ 3 → ⊥) → (a : ℕ) → takes_part transactions (replicate 2 0) a ≡ earlier_touch rows k x a
  unfolding earlier_touch
  before_none n m a = no_member 2 a ∙ sym (or_no _ (and_no_left _ (→isnt m)) ∙ and_no_left _ (or_no _ (→isnt m) ∙ →isnt n))

-- THE EDGES THAT END AT A STEP
module _ (log : List ℕ) where
  -- step j ends no edge, and no step behind it meets it
  pub record Idle (j : ℕ) : Type 0 where
    pub ends : (i a b : ℕ) → conflict_pair log j i a b ≡ false
    pub meets : (k x a : ℕ) → (k ≡ 2) ⊎ (k ≡ 3) → touched_by log k x a j ≡ false

  -- as one of a transaction that did not commit, and one that neither reads nor writes
  pub open_step : (j : ℕ) → committed log (tx log j) ≡ false → Idle j
  unfolding conflict_pair touched_by
  open_step j n = record { ends = λ i a b. and_no_left _ (and_no_left _ (and_no_left _ n)); meets = λ k x a w. and_no_left _ (and_no_left _ (and_no_left _ n)) }

  pub other_step : (j : ℕ) → (kind log j ≡ 2 → ⊥) → (kind log j ≡ 3 → ⊥) → Idle j
  unfolding conflict_pair meet_somehow touches touched_by
  other_step j r w =
      record {
        ends = λ i a b. and_no_left _ (and_no_right _ (and_no_left _ (and_no_left _ (and_no_right _ (or_no _ (→isnt w) ∙ →isnt r)))));
        meets = λ k x a o. and_no_left _ (and_no_left _ (and_no_right _ (→isnt (λ (e : kind log j ≡ k). ⊎_elim (λ (z : k ≡ 2). r (e ∙ z)) (λ (z : k ≡ 3). w (e ∙ z)) o))));
      }

  pub ends_none : {j : ℕ} → Idle j → {m : List ℕ} → Drawn (conflicts_until log j) m → Drawn (conflicts_until log (suc j)) m
  unfolding conflicts_until some
  ends_none {j} idle d = same_edges d (λ a b. sym (or_no (conflicts_until log j a b) (→none {n = j} _ (λ i h. idle.ends i a b))))

  pub touches_none : {j : ℕ} → Idle j → {rows : List ℕ} → Touched log j rows → Touched log (suc j) rows
  touches_none {j} idle t = record { size = t.size; mark = λ k x a w h. t.mark k x a w h ∙ sym (rw (← add-one j) (some_skip j (touched_by log k x a) (idle.meets k x a w))) }

  -- nothing was touched yet
  pub untouched : Touched log 0 (replicate row_words 0)
  unfolding some
  untouched = record { size = length-replicate {A = ℕ} row_words 0; mark = λ k x a _ _. no_rows row_words (touched_row k x) a }

  module _ (j : ℕ) (c : committed log (tx log j) ≡ true) (in_range : (1 ≤ tx log j) × (tx log j ≤ transactions)) {rows : List ℕ} (t : Touched log j rows) where
    -- those whose earlier steps meet step j
    module _ (x_low : obj log j < objects) where
      met : (a : ℕ) → earlier_touch rows (kind log j) (obj log j) a ≡ some j (λ i. committed log (tx log i) and meet_somehow log i j and tx log i is a)
      unfolding earlier_touch meet_somehow touches touched_by
      met a = same_test there back
        where
          writers : in_row rows (touched_row 3 (obj log j)) a ≡ some j (touched_by log 3 (obj log j) a)
          writers = t.mark 3 (obj log j) a (inr refl) x_low

          readers : in_row rows (touched_row 2 (obj log j)) a ≡ some j (touched_by log 2 (obj log j) a)
          readers = t.mark 2 (obj log j) a (inl refl) x_low

          there : ((kind log j is 2 or kind log j is 3) and in_row rows (touched_row 3 (obj log j)) a or kind log j is 3 and in_row rows (touched_row 2 (obj log j)) a) ≡ true
              → some j (λ i. committed log (tx log i) and meet_somehow log i j and tx log i is a) ≡ true
          there h =
              ⊎_elim (λ k. let q = and→ k in let r = some→ (sym writers ∙ q.1) in let p = and→ r.2 in let o = and→ p.0 in let n = and→ o.0 in
              →some _ r.0 r.1 (→and (→and n.0 (→and (→and (→and (→or_right _ n.1) q.0) o.1) (→or_left _ n.1))) p.1))
              (λ k. let q = and→ k in let r = some→ (sym readers ∙ q.1) in let p = and→ r.2 in let o = and→ p.0 in let n = and→ o.0 in
              →some _ r.0 r.1 (→and (→and n.0 (→and (→and (→and (→or_left _ n.1) (→or_right _ q.0)) o.1) (→or_right _ q.0))) p.1)) (or→ h)

          back : some j (λ i. committed log (tx log i) and meet_somehow log i j and tx log i is a) ≡ true
              → ((kind log j is 2 or kind log j is 3) and in_row rows (touched_row 3 (obj log j)) a or kind log j is 3 and in_row rows (touched_row 2 (obj log j)) a) ≡ true
          back h =
              let r = some→ h in
              let p = and→ r.2 in
              let q = and→ p.0 in
              let o = and→ q.1 in
              let n = and→ o.0 in
              let l = and→ n.0 in
              let write : (kind log r.0 is 3) ≡ true → _ = λ (w : (kind log r.0 is 3) ≡ true). →or_left _ (→and l.1 (writers ∙ →some _ r.0 r.1 (→and (→and (→and q.0 w) n.1) p.1))) in
              ⊎_elim write
              (λ w. ⊎_elim (λ k. →or_right _ (→and w (readers ∙ →some _ r.0 r.1 (→and (→and (→and q.0 k) n.1) p.1)))) write (or→ l.0)) (or→ o.1)

      ends_drawn : {m m' before : List ℕ} → Drawn (conflicts_until log j) m → {k x : ℕ} → k ≡ kind log j → x ≡ obj log j → ((a : ℕ) → takes_part transactions before a ≡ earlier_touch rows k x a) → {u : ℕ} → u ≡ tx log j → Joins m before u m'
          → Drawn (conflicts_until log (suc j)) m'
      unfolding conflicts_until conflict_pair one_edge some
      ends_drawn {m} {m'} {before} d {k} {x} is_kind is_obj known {u} is_tx g =
          let one = set_more d (rw is_tx in_range.0) (rw is_tx in_range.1) g in
          record { size = one.size; mark = λ a b p. one.mark a b p ∙ ap (λ (z : Bool). conflicts_until log j a b or z) (same_test (there a b p) (back a b)) }
        where
          e : (a : ℕ) → takes_part transactions before a ≡ earlier_touch rows (kind log j) (obj log j) a
          e a = known a ∙ ap₂ (λ (k x : ℕ). earlier_touch rows k x a) is_kind is_obj

          there : (a b : ℕ) → Pair a b → (b is u and takes_part transactions before a) ≡ true → some j (λ i. conflict_pair log j i a b) ≡ true
          there a b p h =
              let q = and→ h in
              let r = some→ {n = j} {p = λ i. committed log (tx log i) and meet_somehow log i j and tx log i is a} (sym (met a) ∙ sym (e a) ∙ q.1) in
              let o = and→ r.2 in
              let f : tx log r.0 ≡ a = is→ o.1 in
              let w : tx log j ≡ b = sym (is→ q.0 ∙ is_tx) in
              let low : 1 ≤ a = p.1 in
              let low_b : 1 ≤ b = p.3 in
              let k : Kept (tx log r.0) (tx log j) = record { differ = λ z. p.0 (sym f ∙ z ∙ w); from = λ z. let y : a ≡ 0 = sym f ∙ z in omega arith; to = λ z. let y : b ≡ 0 = sym w ∙ z in omega arith } in
              →some _ r.0 r.1 (→and (→and (→and c (and→ o.0).0) (and→ o.0).1) (→and (→and (→kept k) (→is f)) (→is w)))

          back : (a b : ℕ) → some j (λ i. conflict_pair log j i a b) ≡ true → (b is u and takes_part transactions before a) ≡ true
          back a b h =
              let r = some→ {n = j} {p = λ i. conflict_pair log j i a b} h in
              let q = and→ r.2 in
              let o = and→ q.0 in
              let n = and→ q.1 in
              →and (→is (sym (is_tx ∙ is→ n.1))) (e a ∙ met a ∙ →some _ r.0 r.1 (→and (→and (and→ o.0).1 o.1) (and→ n.0).1))

    -- step j is noted
    pub touched_more : obj log j < objects → {one rows' : List ℕ} {u : ℕ} → u ≡ tx log j → ((a : ℕ) → takes_part transactions one a ≡ (a is u and 1 upto u and u upto transactions or takes_part transactions (replicate 2 0) a))
        → {row : ℕ} → row ≡ touched_row (kind log j) (obj log j) → Joins rows one row rows' → Touched log (suc j) rows'
    unfolding touched_row touched_by
    touched_more x_low {one} {rows'} {u} is_tx e {row} is_row g = record { size = g.size ∙ t.size; mark = λ k x a w h. g.each t.size (touched_row k x) a ∙ each k x a w h }
      where
        single : (a : ℕ) → takes_part transactions one a ≡ (tx log j is a)
        single a =
            e a ∙ same_test (λ h. ⊎_elim (λ q. let z : a ≡ u = is→ (and→ (and→ q).0).0 in →is (sym (z ∙ is_tx))) (λ q. absurd (not_both q (no_member 2 a))) (or→ h))
            (λ h. let z : tx log j ≡ a = is→ h in →or_left _ (→and (→and (→is (sym (is_tx ∙ z))) (→upto (rw is_tx in_range.0))) (→upto (rw is_tx in_range.1))))

        each : (k x a : ℕ) → (k ≡ 2) ⊎ (k ≡ 3) → x < objects
            → (in_row rows (touched_row k x) a or (touched_row k x is row and 1 upto row and row upto transactions and takes_part transactions one a)) ≡ some (suc j) (touched_by log k x a)
        each k x a w h =
            ap (λ (z : Bool). z or (touched_row k x is row and 1 upto row and row upto transactions and takes_part transactions one a)) (t.mark k x a w h)
            ∙ ap (λ (z : Bool). some j (touched_by log k x a) or z) (same_test (there k x a w h) (back k x a w h))
            ∙ sym (rw (← add-one j) (some_next j (touched_by log k x a)))
          where
            there : (k x a : ℕ) → (k ≡ 2) ⊎ (k ≡ 3) → x < objects → (touched_row k x is row and 1 upto row and row upto transactions and takes_part transactions one a) ≡ true → touched_by log k x a j ≡ true
            there k x a w h q =
                let r = and→ q in
                let f : touched_row k x ≡ touched_row (kind log j) (obj log j) = is→ (and→ (and→ r.0).0).0 ∙ is_row in
                let s = row_tells k x (kind log j) (obj log j) w h x_low f in
                →and (→and (→and c (→is (sym s.0))) (→is (sym s.1))) (sym (single a) ∙ r.1)

            back : (k x a : ℕ) → (k ≡ 2) ⊎ (k ≡ 3) → x < objects → touched_by log k x a j ≡ true → (touched_row k x is row and 1 upto row and row upto transactions and takes_part transactions one a) ≡ true
            back k x a w h q =
                let r = and→ q in
                let s = and→ r.0 in
                let f : kind log j ≡ k = is→ (and→ s.0).1 in
                let o : obj log j ≡ x = is→ s.1 in
                let v : touched_row k x ≡ row = sym (is_row ∙ ap₂ touched_row f o) in
                let b = row_range k x w h in
                →and (→and (→and (→is v) (→upto (rw (← v) b.0))) (→upto (rw (← v) b.1))) (single a ∙ r.1)

    -- its edges are drawn, and it is noted
    pub step_touches : obj log j < objects → {m m' rows' : List ℕ} {k u x : ℕ} → Drawn (conflicts_until log j) m → k ≡ kind log j → u ≡ tx log j → x ≡ obj log j → Touches m rows k u x m' rows'
        → Drawn (conflicts_until log (suc j)) m' × Touched log (suc j) rows'
    step_touches x_low d is_kind is_tx is_obj g =
        (ends_drawn x_low d is_kind is_obj g.known is_tx g.joins, touched_more x_low is_tx g.single (ap₂ touched_row is_kind is_obj) g.noted)

module _ {most : ℕ} (log : List ℕ) (well : Well most log) where
  pub all_conflicts : (a b : ℕ) → conflicts_until log (steps log) a b ≡ conflict_edge log a b
  unfolding conflicts_until conflict_pair plain_conflict
  all_conflicts a b = same_test there back ∙ sym (plain_conflict_edge log well a b)
    where
      there : conflicts_until log (steps log) a b ≡ true → plain_conflict log a b ≡ true
      there h =
          let x = some→ h in
          let y = some→ x.2 in
          let p = and→ y.2 in
          let o = one_edge→ (tx log y.0) (tx log x.0) a b p.1 in
          let e : tx log y.0 ≡ a = o.1 in
          let f : tx log x.0 ≡ b = o.2 in
          →and (→and (→and (→fails (→isnt o.0.differ)) (rw e at (and→ (and→ p.0).0).1)) (rw f at (and→ (and→ p.0).0).0))
          (→some _ x.0 x.1 (→and (→is f) (→some _ y.0 y.1 (→and (→is e) (and→ p.0).1))))

      back : plain_conflict log a b ≡ true → conflicts_until log (steps log) a b ≡ true
      back h =
          let q = and→ (and→ h).0 in
          let a_committed : committed log a ≡ true = (and→ q.0).1 in
          let b_committed : committed log b ≡ true = q.1 in
          let x = some→ (and→ h).1 in
          let f : tx log x.0 ≡ b = is→ (and→ x.2).0 in
          let y = some→ (and→ x.2).1 in
          let e : tx log y.0 ≡ a = is→ (and→ y.2).0 in
          let k : Kept a b = record { differ = isnt→ (fails→ (and→ q.0).0); from = not_zero log well a a_committed; to = not_zero log well b b_committed } in
          →some _ x.0 x.1 (→some _ y.0 y.1
          (→and (→and (→and (rw f b_committed) (rw e a_committed)) (and→ y.2).1) (rw (e, f) (→one_edge k))))

pub conflict_between : (log : List ℕ) → Between log (conflict_edge log)
unfolding conflict_edge
conflict_between log =
    record {
      differ = λ a b h. isnt→ (fails→ (and→ (and→ (and→ h).0).0).0);
      from = λ a b h. (and→ (and→ (and→ h).0).0).1;
      to = λ a b h. (and→ (and→ h).0).1;
    }
