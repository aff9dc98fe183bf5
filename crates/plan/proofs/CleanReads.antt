-- Which reads are at fault in a log with some transactions taken back.
use mathlib.Core.Path.{◌≡◌, sym, ap, ◌∙◌}
use mathlib.Core.Bool.{Bool, true, false}
use mathlib.Core.Logic.{◌⊎◌, inl, inr, ⊎_elim}
use mathlib.Core.List.{List}
use Prim.Native.Nat.{ℕ, ◌<◌}
use native.Mathlib.Omega.{arith}
use Rattle.words.specs.Tests.{◌below◌, ◌and◌}
use Rattle.verdict.specs.Log.{steps, tx, obj, src, committed}
use Rattle.verdict.specs.Clean.{judged, judged_other, after_own_write, writes_later, final_source, own_fault, source_fault, faulty_read, is_clean}
use Rattle.words.proofs.Truth.{decide, not_both, to_true, to_false, and→, →and, or→, →or_left, →or_right, fails→, →fails, is→, →is, →none, none→, some_same}
use Rattle.plan.proofs.ChangedLog.{Changed, reads_same, writes_same, wrote_same, still_committed, stays_committed}

-- A read that is not at fault: it does not come after an own write, and its source is the store, or committed and writes the object in no later step.
pub record Sound (log : List ℕ) (i : ℕ) : Type 0 where
  pub not_own : after_own_write log i ≡ false
  pub source : (src log i ≡ 0) ⊎ ((committed log (src log i) ≡ true) × (writes_later log i (src log i) (obj log i) ≡ false))

module _ (log : List ℕ) where
  -- a faulty read is a judged one from another
  pub faulty_judged : (i : ℕ) → faulty_read log i ≡ true → judged_other log i ≡ true
  unfolding faulty_read own_fault source_fault
  faulty_judged i k = ⊎_elim (λ l. (and→ l).0) (λ l. (and→ l).0) (or→ k)

  sound→ : (i : ℕ) → judged_other log i ≡ true → faulty_read log i ≡ false → Sound log i
  unfolding faulty_read own_fault source_fault final_source
  sound→ i j n =
      record {
        not_own = to_false _ (λ o. not_both (→or_left _ (→and j o)) n);
        source = ⊎_elim (λ k. inl (is→ k)) (λ k. inr ((and→ k).0, fails→ (and→ k).1)) (or→ (to_true (final_source log i) (λ k. not_both (→or_right _ (→and j (→fails k))) n)));
      }

  pub →sound : (i : ℕ) → Sound log i → faulty_read log i ≡ false
  unfolding faulty_read own_fault source_fault final_source
  →sound i s =
      to_false _ (λ k. ⊎_elim (λ l. not_both (and→ l).1 s.not_own)
      (λ l. not_both (final s.source) (fails→ (and→ l).1)) (or→ k))
    where
      final : (src log i ≡ 0) ⊎ ((committed log (src log i) ≡ true) × (writes_later log i (src log i) (obj log i) ≡ false)) → final_source log i ≡ true
      final (inl z) = →or_left _ (→is z)
      final (inr r) = →or_right _ (→and r.0 (→fails r.1))

  pub clean_sound : is_clean log ≡ true → (i : ℕ) → i < steps log → judged_other log i ≡ true → Sound log i
  unfolding is_clean
  clean_sound c i h j = sound→ i j (none→ _ (fails→ c) i h)

  pub sound_clean : ((i : ℕ) → i < steps log → judged_other log i ≡ true → Sound log i) → is_clean log ≡ true
  unfolding is_clean
  sound_clean f = →fails (→none _ (λ (i : ℕ) (h : i < steps log). go i h (decide (judged_other log i))))
    where
      go : (i : ℕ) → i < steps log → (judged_other log i ≡ true) ⊎ (judged_other log i ≡ false) → faulty_read log i ≡ false
      go i h (inl j) = →sound i (f i h j)
      go i h (inr j) = to_false _ (λ k. not_both (faulty_judged i k) j)

  -- .. and where one is not, the log is unclean
  pub faulty_unclean : (i : ℕ) → i < steps log → judged_other log i ≡ true → (Sound log i → ⊥) → is_clean log ≡ false
  faulty_unclean i h j n = to_false _ (λ c. n (clean_sound c i h j))

module _ {back : ℕ → Bool} {log log' : List ℕ} (c : Changed back log log') (i : ℕ) (h : i < steps log) where
  -- judged are those that were, but for who is taken back
  pub judged_after : judged_other log' i ≡ true → (judged_other log i ≡ true) × (back (tx log i) ≡ false)
  unfolding judged_other judged
  judged_after j =
      let r = and→ j in
      let q = and→ r.0 in
      let s = still_committed c (tx log i) (rw (c.txs i h) at q.1) in
      (→and (→and (sym (reads_same c i h) ∙ q.0) s.0) (rw (c.txs i h, c.srcs i h) at r.1), s.1)

  pub still_judged : judged_other log i ≡ true → back (tx log i) ≡ false → judged_other log' i ≡ true
  unfolding judged_other judged
  still_judged j b =
      let r = and→ j in
      let q = and→ r.0 in
      →and (→and (reads_same c i h ∙ q.0) (rw (c.txs i h) (stays_committed c (tx log i) q.1 b))) (rw (c.txs i h, c.srcs i h) r.1)

  pub own_same : after_own_write log' i ≡ after_own_write log i
  unfolding after_own_write
  own_same = rw (c.txs i h, c.objs i h) (wrote_same c i (omega arith) (tx log i) (obj log i))

  pub later_same : (t x : ℕ) → writes_later log' i t x ≡ writes_later log i t x
  unfolding writes_later
  later_same t x = rw c.size (some_same (steps log) _ _ (λ (j : ℕ) (l : j < steps log). ap (λ (b : Bool). i below j and b) (writes_same c j l t x)))

  -- a read is sound where it is after no own write and its source is sound
  pub sound_after : after_own_write log i ≡ false
      → (src log i ≡ 0) ⊎ ((committed log' (src log i) ≡ true) × (writes_later log i (src log i) (obj log i) ≡ false)) → Sound log' i
  sound_after o s =
      record {
        not_own = own_same ∙ o;
        source = rw (c.srcs i h, c.objs i h) (⊎_elim inl (λ (r : (committed log' (src log i) ≡ true) × (writes_later log i (src log i) (obj log i) ≡ false)). inr (r.0, later_same (src log i) (obj log i) ∙ r.1)) s);
      }

  pub sound_before : Sound log' i
      → (after_own_write log i ≡ false) × ((src log i ≡ 0) ⊎ ((committed log' (src log i) ≡ true) × (writes_later log i (src log i) (obj log i) ≡ false)))
  sound_before s = (
    sym own_same ∙ s.not_own,
    ⊎_elim (λ (z : src log' i ≡ 0). inl (sym (c.srcs i h) ∙ z))
        (λ (r : (committed log' (src log' i) ≡ true) × (writes_later log' i (src log' i) (obj log' i) ≡ false)). inr (rw (c.srcs i h) at r.0, sym (later_same (src log i) (obj log i)) ∙ (rw (c.srcs i h, c.objs i h) at r.1))) s.source,
  )

-- where fewer are taken back, a read that was sound still is
module _ {p q : ℕ → Bool} {log log₁ log₂ : List ℕ} (c : Changed p log log₁) (d : Changed q log log₂) (i : ℕ) (h : i < steps log) where
  pub sound_more : (committed log₁ (src log i) ≡ true → q (src log i) ≡ false) → Sound log₁ i → Sound log₂ i
  sound_more f s =
      let r = sound_before c i h s in
      sound_after d i h r.0 (⊎_elim inl (λ (k : (committed log₁ (src log i) ≡ true) × (writes_later log i (src log i) (obj log i) ≡ false)). inr (stays_committed d (src log i) (still_committed c (src log i) k.0).0 (f k.0), k.1)) r.1)
