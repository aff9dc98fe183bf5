-- Of two fine logs, of which the one has more taken back, one more can be given back in that one: the first of those in an order that explains the other.
use mathlib.Core.Path.{◌≡◌, refl}
use mathlib.Core.Bool.{Bool, true, false}
use mathlib.Core.Logic.{◌⊎◌, inl, inr, ⊎_elim}
use mathlib.Core.List.{List}
use Prim.Native.Nat.{ℕ, ◌<◌}
use Rattle.words.specs.Tests.{◌is◌}
use Rattle.verdict.specs.Limits.{transactions}
use Rattle.verdict.specs.Log.{steps, tx, obj, src, committed}
use Rattle.verdict.specs.Clean.{judged_other, is_clean}
use Rattle.verdict.specs.Replay.{finds, reads_right, serial, explains_loosely, explains}
use Rattle.verdict.specs.Refusal.{log_refusal}
use Rattle.verdict.specs.Answers.{Passed}
use Rattle.words.proofs.Truth.{decide, not_both, to_false, and→, →and, and_no_left, fails→, →fails, implies→, is→, isnt→, →isnt, every→}
use Rattle.verdict.proofs.WellFormed.{Well, well_formed}
use Rattle.verdict.proofs.Versions.{not_zero}
use Rattle.verdict.proofs.Serial.{serial_distinct, serial_committed, serial_member}
use Rattle.verdict.proofs.Replayed.{Last, None, finds_cases}
use Rattle.plan.specs.TakenBack.{taken_back, ◌but◌}
use Rattle.plan.specs.Fine.{Fine}
use Rattle.plan.specs.WillDo.{WillDo}
use Rattle.plan.specs.Inner.Trials.{Within}
use Rattle.plan.proofs.ChangedLog.{Changed, changed, well_changed, still_committed, stays_committed}
use Rattle.plan.proofs.CleanReads.{Sound, clean_sound, sound_clean, judged_after, still_judged, sound_more}
use Rattle.verdict.proofs.Listing.{explains→}
use Rattle.plan.proofs.Explained.{fine_explains}
use Rattle.plan.proofs.Passing.{FirstOf, first_of}
use Rattle.plan.proofs.Restricted.{fine_within}

pub fine_clean : (log : List ℕ) → log_refusal log ≡ Passed → Fine transactions log → is_clean log ≡ true
fine_clean log well f = (explains→ transactions log f.members (fine_explains log (well_formed log well) f)).0

module _ (back : ℕ → Bool) (t : ℕ) where
  pub but_other : (u : ℕ) → (u ≡ t → ⊥) → back u ≡ true → (back but t) u ≡ true
  unfolding ◌but◌
  but_other u n b = →and b (→fails (→isnt n))

  pub but→ : (u : ℕ) → (back but t) u ≡ true → (back u ≡ true) × (u ≡ t → ⊥)
  unfolding ◌but◌
  but→ u b = let r = and→ b in (r.0, isnt→ (fails→ r.1))

  pub but_not : (u : ℕ) → back u ≡ false → (back but t) u ≡ false
  unfolding ◌but◌
  but_not u b = and_no_left _ b

  pub but_itself : (back but t) t ≡ false
  but_itself = to_false _ (λ k. (but→ t k).1 refl)

-- log₁ has those of p taken back, and log₂ those of q, which are more; log₃ those of q but one
module _ (log : List ℕ) (well : log_refusal log ≡ Passed) (p q : ℕ → Bool) (within : Within p q)
    (f : Fine transactions (taken_back p log)) (g : Fine transactions (taken_back q log)) (u : ℕ) (c_u : committed log u ≡ true) (q_u : q u ≡ true) (p_u : p u ≡ false) where
  log₁ : List ℕ
  log₁ = taken_back p log

  c : Changed p log log₁
  unfolding log₁
  c = changed p log

  well₁ : Well transactions log₁
  unfolding log₁
  well₁ = well_formed _ (well_changed (changed p log) well)

  w : List ℕ
  w = f.members

  explained : explains transactions log₁ w ≡ true
  unfolding log₁ w
  explained = fine_explains _ (well_formed _ (well_changed (changed p log) well)) f

  serially : serial transactions log₁ w ≡ true
  serially = (explains→ transactions log₁ w explained).1

  -- the first in the order of those taken back
  first : FirstOf q w
  first = first_of q u w (serial_distinct log₁ well₁ w serially) (serial_member log₁ well₁ w serially u (stays_committed c u c_u p_u)) q_u

  r : ℕ
  r = first.one

  r_committed : (committed log r ≡ true) × (p r ≡ false)
  unfolding r
  r_committed = still_committed c first.one (serial_committed log₁ well₁ w serially first.one first.inside)

  log₃ : List ℕ
  log₃ = taken_back (q but r) log

  d : Changed (q but r) log log₃
  unfolding log₃
  d = changed (q but r) log

  -- the source of a read of it stands before it, and so is not taken back
  source_left : (i : ℕ) → i < steps log → judged_other log₁ i ≡ true → tx log i ≡ r → committed log₁ (src log i) ≡ true → q (src log i) ≡ false
  unfolding explains explains_loosely reads_right r
  source_left i l k e s = go (rw found at (finds_cases log₁ (obj log i) (tx log i) 0 w (serial_distinct log₁ well₁ w serially) (rw e first.inside)))
    where
      found : finds log₁ (obj log i) (tx log i) 0 w ≡ src log i
      found = rw (c.objs i l, c.txs i l, c.srcs i l) at (is→ (implies→ (every→ _ (and→ (and→ explained).0).1 i (rw c.size l)) k))

      go : Last log₁ (obj log i) (tx log i) (src log i) w ⊎ ((src log i ≡ 0) × None log₁ (obj log i) (tx log i) w) → q (src log i) ≡ false
      go (inl a) = first.none_before (src log i) (rw e at a.here)
      go (inr a) = absurd (not_zero log₁ well₁ (src log i) s a.0)

  -- so its reads are sound
  reads_of : (i : ℕ) → i < steps log → judged_other log i ≡ true → tx log i ≡ r → Sound log₃ i
  reads_of i l j e =
      let b : p (tx log i) ≡ false = rw e r_committed.1 in
      let k : judged_other log₁ i ≡ true = still_judged c i l j b in
      sound_more c d i l (λ s. but_not q r (src log i) (source_left i l k e s)) (clean_sound log₁ (explains→ transactions log₁ w explained).0 i (rw c.size l) k)

  -- and those of the others are as they were
  clean_left : is_clean log₃ ≡ true
  unfolding log₃
  clean_left = sound_clean log₃ (λ (i : ℕ) (h : i < steps log₃). each i (rw d.size at h))
    where
      each : (i : ℕ) → i < steps log → judged_other log₃ i ≡ true → Sound log₃ i
      each i l j =
          let a = judged_after d i l j in
          ⊎_elim (λ (e : (tx log i is r) ≡ true). reads_of i l a.0 (is→ e))
          (λ (e : (tx log i is r) ≡ false).
          let b : q (tx log i) ≡ false = to_false _ (λ m. not_both (but_other q r (tx log i) (isnt→ e) m) a.1) in
          let c₂ = changed q log in
          sound_more c₂ d i l (λ s. but_not q r (src log i) (still_committed c₂ (src log i) s).1)
          (clean_sound (taken_back q log) (fine_clean _ (well_changed c₂ well) g) i (rw c₂.size l) (still_judged c₂ i l a.0 b))) (decide (tx log i is r))

  pub one_inside : (t : ℕ) × (q t ≡ true) × Fine transactions (taken_back (q but t) log)
  unfolding log₃ r
  one_inside = (
    first.one,
    first.passes,
    fine_within log well p (q but first.one) (λ (a : ℕ) (b : p a ≡ true). but_other q first.one a (λ (e : a ≡ first.one). not_both b (rw e r_committed.1)) (within a b)) f clean_left,
  )

-- A proposal that will do has no smaller one inside it that will do.
pub none_inside : (log : List ℕ) → log_refusal log ≡ Passed → (p q : ℕ → Bool) → Within p q → ((t : ℕ) → q t ≡ true → committed log t ≡ true) → Fine transactions (taken_back p log) → WillDo transactions log q → Within q p
none_inside log well p q within those f g u b = go (decide (p u))
  where
    go : (p u ≡ true) ⊎ (p u ≡ false) → p u ≡ true
    go (inl a) = a
    go (inr a) = let r = one_inside log well p q within f g.fine u (those u b) b a in absurd (g.needed r.0 r.1 r.2)
