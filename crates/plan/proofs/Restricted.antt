-- Taking back more never makes a cycle, as long as the log stays clean: an order that explains the one log, without those that are taken back too,
-- explains the other.
use mathlib.Core.Path.{◌≡◌, sym, ◌∙◌}
use mathlib.Core.Bool.{Bool, true}
use mathlib.Core.Logic.{◌⊎◌, inl, inr, ⊎_elim}
use mathlib.Core.List.{List}
use Prim.Native.Nat.{ℕ, ◌<◌}
use Rattle.words.specs.Tests.{fails}
use Rattle.words.specs.Lists.{member, distinct, before}
use Rattle.verdict.specs.Limits.{transactions}
use Rattle.verdict.specs.Log.{steps, tx, obj, src, committed, writer, commit_step}
use Rattle.verdict.specs.Clean.{judged, judged_other, is_clean}
use Rattle.verdict.specs.Replay.{finds, reads_right, writers_in_order, serial, explains_loosely, explains}
use Rattle.verdict.specs.Refusal.{log_refusal}
use Rattle.verdict.specs.Answers.{Passed}
use Rattle.words.proofs.Truth.{not_both, to_false, and→, →and, fails→, →fails, implies→, →implies, is→, →is, below→, →below, every→, →every}
use Rattle.words.proofs.Places.{all→, →all, before_left, before_asym}
use Rattle.verdict.proofs.WellFormed.{Well, well_formed}
use Rattle.verdict.proofs.Versions.{not_zero}
use Rattle.verdict.proofs.Cleanly.{source_committed}
use Rattle.verdict.proofs.Serial.{serial_distinct, serial_committed, serial_member, →serial}
use Rattle.verdict.proofs.Replayed.{Last, None, finds_cases}
use Rattle.plan.specs.TakenBack.{taken_back}
use Rattle.plan.specs.Fine.{Fine}
use Rattle.plan.specs.Inner.Trials.{Within}
use Rattle.plan.proofs.ChangedLog.{Changed, changed, well_changed, writer_same, shared_same, still_committed, stays_committed, commit_same}
use Rattle.plan.proofs.CleanReads.{judged_after, still_judged}
use Rattle.plan.proofs.Explained.{fine_explains, explained_fine}
use Rattle.plan.proofs.Passing.{passing, passing_member, member_passing, passing_distinct, passing_before, before_passing}

-- log₁ has those of p taken back, and log₂ those of q, which are more
module _ {p q : ℕ → Bool} {log log₁ log₂ : List ℕ} (c : Changed p log log₁) (d : Changed q log log₂) (within : Within p q)
    (well₁ : Well transactions log₁) (well₂ : Well transactions log₂) (clean₂ : is_clean log₂ ≡ true) (w : List ℕ) (h : explains transactions log₁ w ≡ true) where
  -- what is left of the order
  kept : ℕ → Bool
  kept t = fails (q t)

  v : List ℕ
  v = passing kept w

  parts : (is_clean log₁ ≡ true) × (serial transactions log₁ w ≡ true) × (reads_right log₁ w ≡ true) × (writers_in_order log₁ w ≡ true)
  unfolding explains explains_loosely
  parts = let r = and→ h in let s = and→ r.0 in let t = and→ s.0 in (t.0, t.1, s.1, r.1)

  different : distinct w ≡ true
  different = serial_distinct log₁ well₁ w parts.1

  -- who committed in log₂ committed in log₁
  fewer : (t : ℕ) → committed log₂ t ≡ true → committed log₁ t ≡ true
  fewer t k = let r = still_committed d t k in stays_committed c t r.0 (to_false (p t) (λ b. not_both (within t b) r.1))

  in_order : (t : ℕ) → committed log₂ t ≡ true → member t w ≡ true
  in_order t k = serial_member log₁ well₁ w parts.1 t (fewer t k)

  is_kept : (t : ℕ) → committed log₂ t ≡ true → kept t ≡ true
  unfolding kept
  is_kept t k = →fails (still_committed d t k).1

  of_order : (t : ℕ) → member t w ≡ true → kept t ≡ true → committed log₂ t ≡ true
  unfolding kept
  of_order t m k = stays_committed d t (still_committed c t (serial_committed log₁ well₁ w parts.1 t m)).0 (fails→ k)

  serial_left : serial transactions log₂ v ≡ true
  unfolding v
  serial_left =
      →serial log₂ well₂ v (passing_distinct kept w different)
      (λ t m. let r = passing_member kept t w m in of_order t r.0 r.1) (λ t k. member_passing kept t w (in_order t k) (is_kept t k))

  sorted_left : writers_in_order log₂ v ≡ true
  unfolding writers_in_order v
  sorted_left =
      →all _ v (λ a m. →all _ v (λ b n. →implies (λ k.
      let r = passing_member kept a w m in
      let s = passing_member kept b w n in
      let x = and→ k in
      let l = below→ (implies→ (all→ _ w (all→ _ w (unfold writers_in_order in parts.3) a r.0) b s.0) (→and (passing_before kept a b w x.0) (shared_same c a b ∙ sym (shared_same d a b) ∙ x.1))) in
      let e : commit_step log₁ a ≡ commit_step log₂ a = commit_same c a (fewer a (of_order a r.0 r.1)) ∙ sym (commit_same d a (of_order a r.0 r.1)) in
      let f : commit_step log₁ b ≡ commit_step log₂ b = commit_same c b (fewer b (of_order b s.0 s.1)) ∙ sym (commit_same d b (of_order b s.0 s.1)) in
      →below (rw (e, f) at l))))

  -- a judged read from another finds its source in what is left of the order
  module _ (i : ℕ) (l : i < steps log) (j : judged_other log₂ i ≡ true) where
    x : ℕ
    x = obj log i

    r : ℕ
    r = tx log i

    s : ℕ
    s = src log i

    reader : committed log₂ r ≡ true
    unfolding judged_other judged r
    reader = rw (d.txs i l) at (and→ (and→ j).0).1

    judged₁ : judged_other log₁ i ≡ true
    judged₁ = let k = judged_after d i l j in still_judged c i l k.0 (to_false (p (tx log i)) (λ b. not_both (within (tx log i) b) k.1))

    found₁ : finds log₁ x r 0 w ≡ s
    unfolding reads_right x r s
    found₁ = rw (c.objs i l, c.txs i l, c.srcs i l) at (is→ (implies→ (every→ _ parts.2 i (rw c.size l)) judged₁))

    source₂ : (s ≡ 0 → ⊥) → committed log₂ s ≡ true
    unfolding s
    source₂ z = rw (d.srcs i l) at (source_committed log₂ clean₂ i (rw d.size l) j (rw (d.srcs i l) z))

    write₁ : (t : ℕ) → writer log₂ x t ≡ true → writer log₁ x t ≡ true
    write₁ t k = writer_same c x t ∙ sym (writer_same d x t) ∙ k

    write₂ : (t : ℕ) → writer log₁ x t ≡ true → writer log₂ x t ≡ true
    write₂ t k = writer_same d x t ∙ sym (writer_same c x t) ∙ k

    found₂ : finds log₂ x r 0 v ≡ s
    unfolding v
    found₂ =
        go (rw found₁ at (finds_cases log₁ x r 0 w different (in_order r reader)))
        (finds_cases log₂ x r 0 (passing kept w) (passing_distinct kept w different) (member_passing kept r w (in_order r reader) (is_kept r reader)))
      where
        u : ℕ
        u = finds log₂ x r 0 (passing kept w)

        go : Last log₁ x r s w ⊎ ((s ≡ 0) × None log₁ x r w) → Last log₂ x r u (passing kept w) ⊎ ((u ≡ 0) × None log₂ x r (passing kept w)) → u ≡ s
        go (inr n) (inr m) = m.0 ∙ sym n.0
        go (inr n) (inl m) = absurd (n.1 u (write₁ u m.write) (passing_before kept u r w m.here))
        go (inl n) m = from n m (source₂ (not_zero log₁ well₁ s (serial_committed log₁ well₁ w parts.1 s (before_left s r w n.here))))
          where
            from : Last log₁ x r s w → Last log₂ x r u (passing kept w) ⊎ ((u ≡ 0) × None log₂ x r (passing kept w)) → committed log₂ s ≡ true → u ≡ s
            from n (inr m) k = absurd (m.1 s (write₂ s n.write) (before_passing kept s r w n.here (is_kept s k) (is_kept r reader)))
            from n (inl m) k =
                ⊎_elim (λ (e : u ≡ s). e)
                (λ (b : before u s w ≡ true). ⊎_elim (λ (e : s ≡ u). sym e) (λ (a : before s u (passing kept w) ≡ true). absurd (before_asym u s w different b (passing_before kept s u w a)))
                (m.last s (write₂ s n.write) (before_passing kept s r w n.here (is_kept s k) (is_kept r reader))))
                (n.last u (write₁ u m.write) (passing_before kept u r w m.here))

  reads_left : reads_right log₂ v ≡ true
  unfolding reads_right
  reads_left = →every _ (λ (i : ℕ) (g : i < steps log₂). →implies (λ j. let l : i < steps log = rw d.size at g in rw (d.objs i l, d.txs i l, d.srcs i l) (→is (unfold x r s in (found₂ i l j)))))

  explains_left : explains transactions log₂ v ≡ true
  unfolding explains explains_loosely
  explains_left = →and (→and (→and clean₂ serial_left) reads_left) sorted_left

-- so the log with more taken back is fine where it is clean
pub fine_within : (log : List ℕ) → log_refusal log ≡ Passed → (p q : ℕ → Bool) → Within p q → Fine transactions (taken_back p log) → is_clean (taken_back q log) ≡ true → Fine transactions (taken_back q log)
fine_within log well p q within f clean =
    let c = changed p log in
    let d = changed q log in
    let well₁ = well_formed _ (well_changed c well) in
    let well₂ = well_formed _ (well_changed d well) in
    explained_fine _ well₂ _ (explains_left c d within well₁ well₂ clean f.members (fine_explains _ well₁ f))
