-- The reasons on a cycle of the version graph: those of each step, and that those of all steps are the graph's.
use mathlib.Core.Path.{◌≡◌, sym, ap, ◌∙◌}
use mathlib.Core.Bool.{Bool, true, false}
use mathlib.Core.Logic.{⊎_elim}
use mathlib.Core.List.{List}
use Prim.Native.Nat.{ℕ, suc, ◌≤◌, ◌<◌}
use native.Mathlib.Omega.{arith}
use lib.ListN.{get_or}
use Rattle.words.specs.Tests.{◌is◌, ◌and◌, ◌or◌, some}
use Rattle.words.proofs.Truth.{same_test, and→, →and, and_true, and_no_left, and_no_right, or→, →or_left, →or_right, or_no, or_false, or_assoc, is→, →is, →isnt, some→, →some}
use Rattle.verdict.specs.Log.{steps, kind, tx, obj, src, reads, writes, committed, writer}
use Rattle.verdict.specs.Clean.{judged}
use Rattle.verdict.specs.Version.{next_version, writer_to_next, source_to_reader, reader_to_next, version_on}
use Rattle.verdict.specs.Inner.VersionEdges.{next_writer}
use Rattle.verdict.specs.Inner.Reasons.{Ring, follower, Best, edge_on, with_edge}
use Rattle.verdict.specs.Inner.VersionReasons.{write_reasons, read_reasons, step_reasons, version_until}
use Rattle.verdict.proofs.Dependencies.{version_on→, →version_on_writer, →version_on_source, →version_on_reader}
use Rattle.verdict.proofs.VersionGraph.{next_version→, →next_version}
use Rattle.verdict.proofs.LeastReasons.{best_same, follower_low}

-- THE REASONS OF A STEP
module _ (log : List ℕ) (i : ℕ) where
  pub open_reasons : committed log (tx log i) ≡ false → (a b x k : ℕ) → step_reasons log i a b x k ≡ false
  unfolding step_reasons
  open_reasons n a b x k = and_no_left _ n

  pub other_reasons : (kind log i ≡ 2 → ⊥) → (kind log i ≡ 3 → ⊥) → (a b x k : ℕ) → step_reasons log i a b x k ≡ false
  unfolding step_reasons
  other_reasons r w a b x k = and_no_right _ (or_no _ (and_no_left _ (→isnt r)) ∙ and_no_left _ (→isnt w))

module _ (log : List ℕ) (i : ℕ) {c table : List ℕ} where
  pub none_offered : Best c (version_until log i) table → ((a b x k : ℕ) → step_reasons log i a b x k ≡ false) → Best c (version_until log (suc i)) table
  unfolding version_until some
  none_offered b f = best_same b (λ u h x k. or_no _ (f _ _ x k))

  module _ (committed_one : committed log (tx log i) ≡ true) where
    pub write_offered : kind log i ≡ 3 → {t y w : ℕ} → t ≡ tx log i → y ≡ obj log i → w ≡ next_writer log (obj log i) (tx log i)
        → Best c (with_edge (version_until log i) t w y 1) table → Best c (version_until log (suc i)) table
    unfolding version_until some with_edge write_reasons step_reasons
    write_offered w_kind e f g b =
        best_same (rw (e, f, g) at b)
        (λ u h x k. ap (λ (z : Bool). version_until log i (get_or c u 0) (follower c u) x k or z)
        (and_true committed_one ∙ or_no _ (and_no_left _ (→isnt (λ (r : kind log i ≡ 2). omega arith))) ∙ and_true (→is w_kind)))

    pub read_offered : kind log i ≡ 2 → {v t y w : ℕ} → v ≡ src log i → t ≡ tx log i → y ≡ obj log i → w ≡ next_writer log (obj log i) (src log i)
        → Best c (with_edge (with_edge (version_until log i) v t y 2) t w y 3) table → Best c (version_until log (suc i)) table
    unfolding version_until some with_edge read_reasons step_reasons
    read_offered r_kind d e f g b =
        best_same (rw (d, e, f, g) at b)
        (λ u h x k. ap (λ (z : Bool). version_until log i (get_or c u 0) (follower c u) x k or z)
        (and_true committed_one ∙ or_false (and_no_left _ (→isnt (λ (w : kind log i ≡ 3). omega arith))) ∙ and_true (→is r_kind)) ∙ or_assoc _ _ _)

-- THE REASONS OF ALL STEPS
module _ (log : List ℕ) (a b x k : ℕ) (b_some : b ≡ 0 → ⊥) where
  -- each reason of a step is one of the graph
  step_on : (i : ℕ) → i < steps log → step_reasons log i a b x k ≡ true → version_on log a b x k ≡ true
  unfolding step_reasons write_reasons read_reasons edge_on writer_to_next source_to_reader reader_to_next writer writes judged reads
  step_on i l h = ⊎_elim write (λ q. ⊎_elim (source (and→ q).0) (reader (and→ q).0) (or→ (and→ q).1)) (or→ (and→ h).1)
    where
      c : committed log (tx log i) ≡ true
      c = (and→ h).0

      write : (kind log i is 3 and write_reasons log i a b x k) ≡ true → version_on log a b x k ≡ true
      write q =
          let r = and→ (and→ q).1 in
          let s = and→ r.0 in
          let t = and→ s.0 in
          let e : tx log i ≡ a = is→ t.0 in
          let f : next_writer log (obj log i) (tx log i) ≡ b = is→ t.1 in
          let g : obj log i ≡ x = is→ s.1 in
          let m : 1 ≡ k = is→ r.1 in
          let n : next_writer log x a ≡ b = rw (← g, ← e) f in
          rw (← m) (→version_on_writer log a b x (→and (→and (rw e at c) (→some _ i l (→and (→and (and→ q).0 t.0) s.1))) (→next_version log x a b n b_some)))

      source : (kind log i is 2) ≡ true → edge_on (src log i) (tx log i) (obj log i) 2 a b x k ≡ true → version_on log a b x k ≡ true
      source w q =
          let r = and→ q in
          let s = and→ r.0 in
          let t = and→ s.0 in
          let m : 2 ≡ k = is→ r.1 in
          rw (← m) (→version_on_source log a b x (→some _ i l (→and (→and (→and (→and w c) s.1) t.0) t.1)))

      reader : (kind log i is 2) ≡ true → edge_on (tx log i) (next_writer log (obj log i) (src log i)) (obj log i) 3 a b x k ≡ true → version_on log a b x k ≡ true
      reader w q =
          let r = and→ q in
          let s = and→ r.0 in
          let t = and→ s.0 in
          let f : next_writer log (obj log i) (src log i) ≡ b = is→ t.1 in
          let g : obj log i ≡ x = is→ s.1 in
          let m : 3 ≡ k = is→ r.1 in
          let n : next_writer log x (src log i) ≡ b = rw (← g) f in
          rw (← m) (→version_on_reader log a b x (→some _ i l (→and (→and (→and (→and w c) s.1) t.0) (→next_version log x (src log i) b n b_some))))

  -- a judged read of x that passes two tests: it is a read, of a committed transaction
  read_of : (p q : ℕ → Bool) → some (steps log) (λ i. judged log i and obj log i is x and p i and q i) ≡ true
      → (i : ℕ) × (i < steps log) × ((kind log i is 2) ≡ true) × (committed log (tx log i) ≡ true) × ((obj log i is x) ≡ true) × (p i ≡ true) × (q i ≡ true)
  unfolding judged reads
  read_of p q h =
      let r = some→ h in
      let s = and→ r.2 in
      let t = and→ s.0 in
      let u = and→ t.0 in
      let j = and→ u.0 in
      (r.0, r.1, j.0, j.1, u.1, t.1, s.1)

  -- and each of the graph is one of a step
  on_step : version_on log a b x k ≡ true → (i : ℕ) × (i < steps log) × (step_reasons log i a b x k ≡ true)
  unfolding step_reasons write_reasons read_reasons edge_on writer_to_next source_to_reader reader_to_next writer writes judged reads
  on_step h = ⊎_elim write (⊎_elim source reader) (version_on→ log a b x k h)
    where
      write : (k ≡ 1) × (writer_to_next log a b x ≡ true) → (i : ℕ) × (i < steps log) × (step_reasons log i a b x k ≡ true)
      write q =
          let w = and→ (and→ q.1).0 in
          let r = some→ w.1 in
          let i : ℕ = r.0 in
          let s = and→ r.2 in
          let t = and→ s.0 in
          let e : tx log i ≡ a = is→ t.1 in
          let g : obj log i ≡ x = is→ s.1 in
          let n : next_writer log x a ≡ b = next_version→ log x a b (and→ q.1).1 in
          let f : next_writer log (obj log i) (tx log i) ≡ b = rw (g, e) n in
          (i, r.1, →and (rw e w.0) (→or_left _ (→and t.0 (→and (→and (→and t.1 (→is f)) s.1) (→is (sym q.0))))))

      source : (k ≡ 2) × (source_to_reader log a b x ≡ true) → (i : ℕ) × (i < steps log) × (step_reasons log i a b x k ≡ true)
      source q =
          let r = read_of (λ i. src log i is a) (λ i. tx log i is b) q.1 in
          (r.0, r.1, →and r.3 (→or_right _ (→and r.2 (→or_left _ (→and (→and (→and r.5 r.6) r.4) (→is (sym q.0)))))))

      reader : (k ≡ 3) × (reader_to_next log a b x ≡ true) → (i : ℕ) × (i < steps log) × (step_reasons log i a b x k ≡ true)
      reader q =
          let r = read_of (λ i. tx log i is a) (λ i. next_version log x (src log i) b) q.1 in
          let i : ℕ = r.0 in
          let g : obj log i ≡ x = is→ r.4 in
          let n : next_writer log x (src log i) ≡ b = next_version→ log x (src log i) b r.6 in
          let f : next_writer log (obj log i) (src log i) ≡ b = rw g n in
          (i, r.1, →and r.3 (→or_right _ (→and r.2 (→or_right _ (→and (→and (→and r.5 (→is f)) r.4) (→is (sym q.0)))))))

  all_on : version_on log a b x k ≡ version_until log (steps log) a b x k
  unfolding version_until
  all_on = same_test (λ h. let r = on_step h in →some _ r.0 r.1 r.2) (λ h. let r = some→ h in step_on r.0 r.1 r.2)

pub all_version_reasons : (log : List ℕ) {c table : List ℕ} → Ring c → Best c (version_until log (steps log)) table → Best c (version_on log) table
all_version_reasons log {c} r b =
    best_same b (λ i h x k. all_on log (get_or c i 0) (follower c i) x k (λ z. let l : 1 ≤ follower c i = follower_low c r i h in omega arith))
