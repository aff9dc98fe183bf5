-- The edges of a graph in rows: some edges more, and what is shown of the rows is what is shown of the graph.
use mathlib.Core.Path.{◌≡◌, refl, sym, ap, fun_ext, ◌∙◌}
use mathlib.Core.Bool.{Bool, true}
use mathlib.Core.Logic.{⊎_elim}
use mathlib.Core.List.{List}
use Prim.Native.Nat.{ℕ, suc, ◌≤◌}
use native.Mathlib.Omega.{arith}
use lib.ListN.{length, replicate, length-replicate}
use Rattle.words.specs.Tests.{◌is◌, ◌upto◌, ◌and◌, ◌or◌}
use Rattle.words.specs.Lists.{zeros}
use Rattle.graph.specs.Order.{is_order}
use Rattle.graph.specs.Matrix.{matrix_order, row_words, takes_part, joined, in_row, Joins}
use Rattle.graph.specs.Shows.{Shape, Shows}
use Rattle.words.proofs.Truth.{not_both, same_test, and→, →and, and_true_right, or→, →or_left, →fails, fails→, is→, isnt→, →is, →isnt, →upto}
use Rattle.graph.proofs.Marks.{part→, joined→, in_row_of, joined_by_row}
use Rattle.graph.proofs.TwoWords.{no_member}
use Rattle.graph.proofs.RowLaws.{no_rows}
use Rattle.verdict.specs.Limits.{transactions}
use Rattle.verdict.specs.Log.{committed}
use Rattle.verdict.specs.Inner.Edges.{Pair, kept, one_edge, no_edge, EdgeAdded, Drawn}
use Rattle.verdict.specs.Inner.Marks.{Committed}

-- WHICH EDGES ARE KEPT
pub record Kept (s t : ℕ) : Type 0 where
  pub differ : s ≡ t → ⊥
  pub from : s ≡ 0 → ⊥
  pub to : t ≡ 0 → ⊥

pub kept→ : (s t : ℕ) → kept s t ≡ true → Kept s t
unfolding kept
kept→ s t h = let r = and→ (and→ h).0 in record { differ = isnt→ (fails→ r.0); from = isnt→ (fails→ r.1); to = isnt→ (fails→ (and→ h).1) }

pub →kept : {s t : ℕ} → Kept s t → kept s t ≡ true
unfolding kept
→kept k = →and (→and (→fails (→isnt k.differ)) (→fails (→isnt k.from))) (→fails (→isnt k.to))

pub one_edge→ : (s t a b : ℕ) → one_edge s t a b ≡ true → Kept a b × (s ≡ a) × (t ≡ b)
unfolding one_edge
one_edge→ s t a b h =
    let e : s ≡ a = is→ (and→ (and→ h).0).1 in
    let f : t ≡ b = is→ (and→ h).1 in
    (rw (e, f) at (kept→ s t (and→ (and→ h).0).0), e, f)

pub →one_edge : {s t : ℕ} → Kept s t → one_edge s t s t ≡ true
unfolding one_edge
→one_edge k = →and (→and (→kept k) (→is refl)) (→is refl)

-- ONE EDGE MORE
-- .. in rows, by the set of its one start
pub edge_added : {m one m' : List ℕ} {s t : ℕ} → length m ≡ row_words → ((a : ℕ) → takes_part transactions one a ≡ (a is s and 1 upto s and s upto transactions or takes_part transactions (replicate 2 0) a)) → Joins m one t m' → EdgeAdded m s t m'
unfolding one_edge
edge_added {m} {one} {m'} {s} {t} size e g =
    record {
      size = g.size;
      mark = λ a b p. g.each size b a ∙ ap (λ (z : Bool). in_row m b a or z) (same_test (there a b p) (back a b p));
    }
  where
    there : (a b : ℕ) → Pair a b → (b is t and 1 upto t and t upto transactions and takes_part transactions one a) ≡ true → (kept s t and s is a and t is b) ≡ true
    there a b p h =
        let r = and→ h in
        let q = and→ (and→ r.0).0 in
        let u : b ≡ t = is→ q.0 in
        let v : a ≡ s = ⊎_elim (λ k. is→ (and→ (and→ k).0).0) (λ k. absurd (not_both k (no_member 2 a))) (or→ (sym (e a) ∙ r.1)) in
        let low : 1 ≤ a = p.1 in
        let low_b : 1 ≤ b = p.3 in
        →and (→and (→kept (record { differ = λ (z : s ≡ t). p.0 (v ∙ z ∙ sym u); from = λ (z : s ≡ 0). omega arith; to = λ (z : t ≡ 0). omega arith })) (→is (sym v))) (→is (sym u))

    back : (a b : ℕ) → Pair a b → (kept s t and s is a and t is b) ≡ true → (b is t and 1 upto t and t upto transactions and takes_part transactions one a) ≡ true
    back a b p h =
        let u : s ≡ a = is→ (and→ (and→ h).0).1 in
        let v : t ≡ b = is→ (and→ h).1 in
        let low : 1 ≤ a = p.1 in
        let high : a ≤ transactions = p.2 in
        let low_b : 1 ≤ b = p.3 in
        let high_b : b ≤ transactions = p.4 in
        →and (→and (→and (→is (sym v)) (→upto (omega arith))) (→upto (omega arith))) (e a ∙ →or_left _ (→and (→and (→is (sym u)) (→upto (omega arith))) (→upto (omega arith))))

pub no_edges : {m : List ℕ} → m ≡ zeros row_words → Drawn no_edge m
unfolding zeros no_edge
no_edges {m} e = record { size = rw e (length-replicate {A = ℕ} row_words 0); mark = λ a b p. rw e (no_rows row_words b a) }

module _ {edge : ℕ → ℕ → Bool} {m : List ℕ} (drawn : Drawn edge m) where
  -- rows of the same edges
  pub same_edges : {other : ℕ → ℕ → Bool} → ((a b : ℕ) → edge a b ≡ other a b) → Drawn other m
  same_edges f = record { size = drawn.size; mark = λ a b p. drawn.mark a b p ∙ f a b }

  pub edge_more : {m' : List ℕ} {s t : ℕ} → EdgeAdded m s t m' → Drawn (λ a b. edge a b or one_edge s t a b) m'
  edge_more {s} {t} e = record { size = e.size ∙ drawn.size; mark = λ a b p. e.mark a b p ∙ ap (λ (z : Bool). z or one_edge s t a b) (drawn.mark a b p) }

  -- edges to t from all of a set
  pub set_more : {m' part : List ℕ} {t : ℕ} → 1 ≤ t → t ≤ transactions → Joins m part t m' → Drawn (λ a b. edge a b or (b is t and takes_part transactions part a)) m'
  set_more {m'} {part} {t} low high g =
      record {
        size = g.size ∙ drawn.size;
        mark = λ a b p. g.each drawn.size b a ∙ ap (λ (z : Bool). z or (b is t and 1 upto t and t upto transactions and takes_part transactions part a)) (drawn.mark a b p)
            ∙ ap (λ (z : Bool). edge a b or (z and takes_part transactions part a)) (and_true_right _ (→upto high) ∙ and_true_right _ (→upto low));
      }

-- WHO COMMITTED
-- .. of the transaction of a step
pub told_committed : {log part : List ℕ} → Committed log part → {r : Bool} {t u : ℕ} → r ≡ takes_part transactions part t → t ≡ u → r ≡ committed log u
told_committed {log} marks e f = e ∙ marks.mark _ ∙ ap (committed log) f

-- WHAT IS SHOWN
-- the edges join different committed transactions
pub record Between (log : List ℕ) (edge : ℕ → ℕ → Bool) : Type 0 where
  pub differ : (a b : ℕ) → edge a b ≡ true → a ≡ b → ⊥
  pub from : (a b : ℕ) → edge a b ≡ true → committed log a ≡ true
  pub to : (a b : ℕ) → edge a b ≡ true → committed log b ≡ true

module _ {log m part : List ℕ} {edge : ℕ → ℕ → Bool} (marks : Committed log part) (drawn : Drawn edge m) (between : Between log edge) where
  same_nodes : takes_part transactions part ≡ committed log
  same_nodes = fun_ext marks.mark

  range : (t : ℕ) → takes_part transactions part t ≡ true → (1 ≤ t) × (t ≤ transactions)
  range t h = let p = part→ transactions part t h in (p.low, p.high)

  same_joined : (a b : ℕ) → joined transactions m part a b ≡ edge a b
  same_joined a b = same_test there back
    where
      there : joined transactions m part a b ≡ true → edge a b ≡ true
      there h =
          let j = joined→ transactions m part a b h in
          let p = range a j.from in
          let q = range b j.to in
          sym (drawn.mark a b (j.differ, p.0, p.1, q.0, q.1)) ∙ in_row_of m part a b h

      back : edge a b ≡ true → joined transactions m part a b ≡ true
      back h =
          let p : takes_part transactions part a ≡ true = marks.mark a ∙ between.from a b h in
          let q : takes_part transactions part b ≡ true = marks.mark b ∙ between.to a b h in
          let u = range a p in
          let v = range b q in
          let n : a ≡ b → ⊥ = between.differ a b h in
          joined_by_row m part a b n p q (drawn.mark a b (n, u.0, u.1, v.0, v.1) ∙ h)

  -- what `sort` gives is what is shown of the graph
  pub shown_of : {s : Shape} {w : List ℕ} → Shows (suc transactions) (takes_part transactions part) (joined transactions m part) s w → Shows (suc transactions) (committed log) edge s w
  shown_of h = rw (same_nodes, fun_ext (λ a. fun_ext (same_joined a))) at h

  -- the orders of the matrix are those of the graph
  pub order_of : (w : List ℕ) → matrix_order transactions m part w ≡ is_order (suc transactions) (committed log) edge w
  unfolding matrix_order
  order_of w = rw (same_nodes, fun_ext (λ a. fun_ext (same_joined a))) refl
