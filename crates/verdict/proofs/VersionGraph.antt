-- The version graph: the writer of the next version, and that the edges of all steps are the edges of the graph.
use mathlib.Core.Path.{◌≡◌, sym, ap, ◌∙◌}
use mathlib.Core.Bool.{Bool, true, false}
use mathlib.Core.Logic.{◌⊎◌, inl, inr, ⊎_elim}
use mathlib.Core.List.{List}
use Prim.Native.Nat.{ℕ, suc, ◌≤◌, ◌<◌}
use native.Mathlib.Omega.{arith}
use Rattle.words.specs.Tests.{◌is◌, ◌below◌, ◌and◌, ◌or◌, some}
use Rattle.words.proofs.Truth.{decide, same_test, and→, →and, and_true, and_no_left, and_no_right, or→, →or_left, →or_right, or_no, or_false, or_assoc, →fails, fails→, is→, isnt→, →is, →isnt, below→, provided_true, provided_false, some→, →some}
use Rattle.verdict.specs.Limits.{transactions}
use Rattle.verdict.specs.Log.{steps, kind, tx, obj, src, reads, committed}
use Rattle.verdict.specs.Clean.{judged, is_clean}
use Rattle.verdict.specs.Version.{next_commit, next_version, version_edge}
use Rattle.verdict.specs.Inner.VersionEdges.{from_writer, from_source, from_reader, plain_version, next_writer, write_edges, read_edges, version_step, versions_until}
use Rattle.verdict.specs.Inner.Edges.{one_edge, EdgeAdded, Drawn}
use Rattle.verdict.proofs.WellFormed.{Well}
use Rattle.verdict.proofs.Dependencies.{plain_version_edge, version_leaves, version_enters}
use Rattle.verdict.proofs.Matrices.{Kept, one_edge→, →one_edge, same_edges, edge_more, Between}

-- THE WRITER OF THE NEXT VERSION
module _ (log : List ℕ) (x v : ℕ) where
  -- what the writer of the next version says of the versions
  pub next_version→ : (u : ℕ) → next_version log x v u ≡ true → next_writer log x v ≡ u
  unfolding next_version next_writer
  next_version→ u h = provided_true _ _ (and→ h).0 ∙ is→ (and→ h).1

  pub →next_version : (u : ℕ) → next_writer log x v ≡ u → (u ≡ 0 → ⊥) → next_version log x v u ≡ true
  unfolding next_version next_writer
  →next_version u e n = go (decide (next_commit log x v below steps log))
    where
      go : ((next_commit log x v below steps log) ≡ true) ⊎ ((next_commit log x v below steps log) ≡ false) → next_version log x v u ≡ true
      go (inl k) = →and k (→is (sym (provided_true _ _ k) ∙ e))
      go (inr k) = absurd (n (sym e ∙ provided_false _ _ k))

-- a transaction, or 0
pub next_range : (log : List ℕ) → Well transactions log → (x v : ℕ) → next_writer log x v ≤ transactions
unfolding next_writer
next_range log well x v = go (decide (next_commit log x v below steps log))
  where
    go : ((next_commit log x v below steps log) ≡ true) ⊎ ((next_commit log x v below steps log) ≡ false) → next_writer log x v ≤ transactions
    go (inl k) = rw (provided_true (tx log (next_commit log x v)) 0 k) (well.range (next_commit log x v) (below→ k)).1
    go (inr k) = rw (provided_false (tx log (next_commit log x v)) 0 k) (omega arith)

-- THE EDGES OF A STEP
module _ (log : List ℕ) (i : ℕ) where
  pub open_step : committed log (tx log i) ≡ false → (a b : ℕ) → version_step log i a b ≡ false
  unfolding version_step
  open_step n a b = and_no_left _ n

  pub other_step : (kind log i ≡ 2 → ⊥) → (kind log i ≡ 3 → ⊥) → (a b : ℕ) → version_step log i a b ≡ false
  unfolding version_step
  other_step r w a b = and_no_right _ (or_no _ (and_no_left _ (→isnt r)) ∙ and_no_left _ (→isnt w))

  module _ (c : committed log (tx log i) ≡ true) where
    pub write_step : kind log i ≡ 3 → (a b : ℕ) → version_step log i a b ≡ write_edges log i a b
    unfolding version_step
    write_step w a b = and_true c ∙ or_no _ (and_no_left _ (→isnt (λ (r : kind log i ≡ 2). omega arith))) ∙ and_true (→is w)

    pub read_step : kind log i ≡ 2 → (a b : ℕ) → version_step log i a b ≡ read_edges log i a b
    unfolding version_step
    read_step r a b = and_true c ∙ or_false (and_no_left _ (→isnt (λ (w : kind log i ≡ 3). omega arith))) ∙ and_true (→is r)

  -- the matrix of the steps below i, and then of step i too
  module _ {m : List ℕ} (drawn : Drawn (versions_until log i) m) where
    pub none_drawn : ((a b : ℕ) → version_step log i a b ≡ false) → Drawn (versions_until log (suc i)) m
    unfolding versions_until some
    none_drawn f = same_edges drawn (λ a b. sym (or_no _ (f a b)))

    module _ {m' : List ℕ} (c : committed log (tx log i) ≡ true) where
      pub write_drawn : kind log i ≡ 3 → {t w : ℕ} → t ≡ tx log i → w ≡ next_writer log (obj log i) (tx log i) → EdgeAdded m t w m' → Drawn (versions_until log (suc i)) m'
      unfolding versions_until some write_edges
      write_drawn k p q e = same_edges (edge_more drawn (rw (p, q) at e)) (λ a b. ap (λ (z : Bool). versions_until log i a b or z) (sym (write_step c k a b)))

      pub read_drawn : kind log i ≡ 2 → {v t w : ℕ} → v ≡ src log i → t ≡ tx log i → w ≡ next_writer log (obj log i) (src log i) → {between : List ℕ} → EdgeAdded m v t between → EdgeAdded between t w m'
          → Drawn (versions_until log (suc i)) m'
      unfolding versions_until some read_edges
      read_drawn k o p q e f =
          same_edges (edge_more (edge_more drawn (rw (o, p) at e)) (rw (p, q) at f))
          (λ a b. sym (or_assoc (versions_until log i a b) _ _) ∙ ap (λ (z : Bool). versions_until log i a b or z) (sym (read_step c k a b)))

-- THE EDGES OF ALL STEPS
module _ (log : List ℕ) (a b : ℕ) where
  an_edge : Kept a b → (from_writer log a b or from_source log a b or from_reader log a b) ≡ true → plain_version log a b ≡ true
  unfolding plain_version
  an_edge k h = →and (→and (→and (→fails (→isnt k.differ)) (→fails (→isnt k.from))) (→fails (→isnt k.to))) h

  -- each edge of a step is one of the graph
  step_edge : (i : ℕ) → i < steps log → version_step log i a b ≡ true → plain_version log a b ≡ true
  unfolding version_step write_edges read_edges from_writer from_source from_reader judged reads
  step_edge i l h = ⊎_elim write (λ k. ⊎_elim (source (and→ k).0) (reader (and→ k).0) (or→ (and→ k).1)) (or→ (and→ h).1)
    where
      c : committed log (tx log i) ≡ true
      c = (and→ h).0

      write : (kind log i is 3 and write_edges log i a b) ≡ true → plain_version log a b ≡ true
      write k =
          let o = one_edge→ (tx log i) (next_writer log (obj log i) (tx log i)) a b (and→ k).1 in
          let e : tx log i ≡ a = o.1 in
          let n : next_writer log (obj log i) a ≡ b = rw e at o.2 in
          an_edge o.0 (→or_left _ (→or_left _ (→and (rw e at c) (→some _ i l (→and (→and (and→ k).0 (→is e)) (→next_version log (obj log i) a b n o.0.to))))))

      source : (kind log i is 2) ≡ true → one_edge (src log i) (tx log i) a b ≡ true → plain_version log a b ≡ true
      source r k =
          let o = one_edge→ (src log i) (tx log i) a b k in
          an_edge o.0 (→or_left _ (→or_right _ (→some _ i l (→and (→and (→and r c) (→is o.1)) (→is o.2)))))

      reader : (kind log i is 2) ≡ true → one_edge (tx log i) (next_writer log (obj log i) (src log i)) a b ≡ true → plain_version log a b ≡ true
      reader r k =
          let o = one_edge→ (tx log i) (next_writer log (obj log i) (src log i)) a b k in
          an_edge o.0 (→or_right _ (→some _ i l (→and (→and (→and r c) (→is o.1)) (→next_version log (obj log i) (src log i) b o.2 o.0.to))))

  -- and each edge of the graph is one of a step
  edge_step : plain_version log a b ≡ true → (i : ℕ) × (i < steps log) × (version_step log i a b ≡ true)
  unfolding version_step write_edges read_edges plain_version from_writer from_source from_reader judged reads
  edge_step h = ⊎_elim (λ l. ⊎_elim write source (or→ l)) reader (or→ (and→ h).1)
    where
      k : Kept a b
      k = let r = and→ (and→ h).0 in let q = and→ r.0 in record { differ = isnt→ (fails→ q.0); from = isnt→ (fails→ q.1); to = isnt→ (fails→ r.1) }

      write : from_writer log a b ≡ true → (i : ℕ) × (i < steps log) × (version_step log i a b ≡ true)
      write w =
          let r = some→ (and→ w).1 in
          let i : ℕ = r.0 in
          let e : tx log i ≡ a = is→ (and→ (and→ r.2).0).1 in
          let n : next_writer log (obj log i) a ≡ b = next_version→ log (obj log i) a b (and→ r.2).1 in
          (i, r.1, →and (rw e (and→ w).0) (→or_left _ (→and (and→ (and→ r.2).0).0 (rw (e, n) (→one_edge k)))))

      source : from_source log a b ≡ true → (i : ℕ) × (i < steps log) × (version_step log i a b ≡ true)
      source w =
          let r = some→ w in
          let i : ℕ = r.0 in
          let j = and→ (and→ (and→ r.2).0).0 in
          let e : src log i ≡ a = is→ (and→ (and→ r.2).0).1 in
          let f : tx log i ≡ b = is→ (and→ r.2).1 in
          (i, r.1, →and j.1 (→or_right _ (→and j.0 (→or_left _ (rw (e, f) (→one_edge k))))))

      reader : from_reader log a b ≡ true → (i : ℕ) × (i < steps log) × (version_step log i a b ≡ true)
      reader w =
          let r = some→ w in
          let i : ℕ = r.0 in
          let j = and→ (and→ (and→ r.2).0).0 in
          let e : tx log i ≡ a = is→ (and→ (and→ r.2).0).1 in
          let n : next_writer log (obj log i) (src log i) ≡ b = next_version→ log (obj log i) (src log i) b (and→ r.2).1 in
          (i, r.1, →and j.1 (→or_right _ (→and j.0 (→or_right _ (rw (e, n) (→one_edge k))))))

module _ {most : ℕ} (log : List ℕ) (well : Well most log) where
  pub all_versions : (a b : ℕ) → versions_until log (steps log) a b ≡ version_edge log a b
  unfolding versions_until
  all_versions a b =
      same_test (λ h. let r = some→ h in step_edge log a b r.0 r.1 r.2) (λ h. let r = edge_step log a b h in →some _ r.0 r.1 r.2) ∙ sym (plain_version_edge log well a b)

pub version_between : {most : ℕ} (log : List ℕ) → Well most log → is_clean log ≡ true → Between log (version_edge log)
unfolding version_edge
version_between log well clean =
    record {
      differ = λ a b h. isnt→ (fails→ (and→ (and→ (and→ h).0).0).0);
      from = λ a b h. version_leaves log well a b h clean;
      to = λ a b h. version_enters log well a b h;
    }
