-- Reads after their transaction's own write of the object: which are faults, and which reads a snapshot finds wrong.
use mathlib.Core.Path.{◌≡◌, sym, ap, ◌∙◌}
use mathlib.Core.Bool.{true, false}
use mathlib.Core.Logic.{◌⊎◌, inl, inr}
use mathlib.Core.List.{List}
use Prim.Native.Nat.{ℕ, ◌<◌}
use native.Mathlib.Omega.{arith}
use Rattle.words.specs.Tests.{◌is◌, ◌upto◌, ◌or◌, fails, provided◌then◌else◌, some, lowest}
use Rattle.words.proofs.Truth.{decide, not_both, to_false, and→, →and, and_no_left, and_no_right, and_true, and_true_right, →or_left, or_false, →fails, →not_fails, →is, →isnt, not_upto→, provided_true, provided_false, none→, →none, lowest_is, lowest_none, lowest_passes, below_lowest}
use Rattle.words.proofs.From.{lowest_same}
use Rattle.words.proofs.Either.{lowest_either}
use Rattle.verdict.specs.Log.{steps, kind, tx, src, reads, committed}
use Rattle.verdict.specs.Clean.{judged, judged_other, after_own_write, own_fault}
use Rattle.verdict.specs.Snapshot.{writer_number, wanted, wrong_read}
use Rattle.verdict.specs.declared.answers.Writer.TheVariants.{Reader}
use Rattle.verdict.specs.Inner.OwnReads.{misses}
use Rattle.verdict.specs.Inner.StaleReads.{stale_read}

module _ (log : List ℕ) (i : ℕ) where
  -- WHICH READS MISS THEIR OWN WRITE
  pub no_read_misses : (kind log i ≡ 2 → ⊥) → misses log i ≡ false
  unfolding misses reads
  no_read_misses k = and_no_left _ (and_no_left _ (→isnt k))

  pub own_misses : src log i ≡ tx log i → misses log i ≡ false
  unfolding misses
  own_misses e = and_no_left _ (and_no_right _ (→not_fails (→is e)))

  pub other_misses : kind log i ≡ 2 → (src log i ≡ tx log i → ⊥) → misses log i ≡ after_own_write log i
  unfolding misses reads
  other_misses k n = and_true (→and (→is k) (→fails (→isnt n)))

  -- they are faults where the reader committed
  fault_misses : own_fault log i ≡ true → misses log i ≡ true
  unfolding own_fault judged_other judged misses
  fault_misses f = let j = and→ (and→ f).0 in →and (→and (and→ j.0).0 j.1) (and→ f).1

  pub no_fault_there : misses log i ≡ false → own_fault log i ≡ false
  no_fault_there n = to_false _ (λ f. not_both (fault_misses f) n)

  pub fault_if_committed : misses log i ≡ true → own_fault log i ≡ committed log (tx log i)
  unfolding own_fault judged_other judged misses
  fault_if_committed m =
      let r = and→ m in
      let s = and→ r.0 in
      and_true_right _ r.1 ∙ and_true_right _ s.1 ∙ and_true s.0

  -- WHICH READS A SNAPSHOT FINDS WRONG: own faults, and stale reads
  pub wrong_either : wrong_read log i ≡ (own_fault log i or stale_read log i)
  unfolding wrong_read wanted own_fault stale_read judged_other writer_number
  wrong_either = go (decide (judged_other log i)) (decide (after_own_write log i))
    where
      another : judged_other log i ≡ true → fails (src log i is writer_number (Reader (tx log i))) ≡ true
      another j = (and→ j).1

      go : (judged_other log i ≡ true) ⊎ (judged_other log i ≡ false) → (after_own_write log i ≡ true) ⊎ (after_own_write log i ≡ false) → wrong_read log i ≡ (own_fault log i or stale_read log i)
      go (inr n) w = and_no_left _ n ∙ sym (or_false (and_no_left _ n) ∙ and_no_left _ n)
      go (inl j) (inr n) =
          and_true j ∙ ap (λ (t : ℕ). fails (src log i is t)) (ap writer_number (provided_false _ _ n))
          ∙ sym (or_false (and_no_right _ n) ∙ and_true j)
      go (inl j) (inl w) =
          and_true j ∙ ap (λ (t : ℕ). fails (src log i is t)) (ap writer_number (provided_true _ _ w))
          ∙ another j ∙ sym (→or_left _ (→and j w))

-- without a read that misses its own write there is no such fault
pub none_missed : (log : List ℕ) → some (steps log) (misses log) ≡ false → lowest (steps log) (own_fault log) ≡ steps log
none_missed log n = lowest_none (own_fault log) (→none (own_fault log) (λ i h. no_fault_there log i (none→ (misses log) n i h)))

-- THE LOWEST WRONG READ, by the first own fault and the first stale read
module _ (log : List ℕ) {own stale : ℕ} (first_own : own ≡ lowest (steps log) (own_fault log)) (first_stale : stale ≡ lowest (steps log) (stale_read log)) where
  pub first_wrong : (provided own upto stale then own else stale) ≡ lowest (steps log) (wrong_read log)
  first_wrong =
      rw (first_own, first_stale) (sym (lowest_same (steps log) (wrong_read log) (λ i. own_fault log i or stale_read log i) (λ i _. wrong_either log i) ∙ lowest_either (steps log) (own_fault log) (stale_read log)))

  -- whether it comes after its own write
  pub after_own : (k : ℕ) → k ≡ (provided own upto stale then own else stale) → k < steps log → (own upto stale) ≡ after_own_write log k
  unfolding own_fault stale_read
  after_own k e h = go (decide (own upto stale))
    where
      go : ((own upto stale) ≡ true) ⊎ ((own upto stale) ≡ false) → (own upto stale) ≡ after_own_write log k
      go (inl q) =
          let f : k ≡ lowest (steps log) (own_fault log) = e ∙ provided_true _ _ q ∙ first_own in
          let o : own_fault log k ≡ true = rw f (lowest_is {n = steps log} (own_fault log) (lowest_passes (own_fault log) (omega arith))).1 in
          q ∙ sym (and→ {a = judged_other log k} o).1
      go (inr q) =
          let d : k ≡ stale = e ∙ provided_false _ _ q in
          let f : k ≡ lowest (steps log) (stale_read log) = d ∙ first_stale in
          let s : stale_read log k ≡ true = rw f (lowest_is {n = steps log} (stale_read log) (lowest_passes (stale_read log) (omega arith))).1 in
          q ∙ sym (to_false _ (λ w. not_both (→and (and→ {a = judged_other log k} s).0 w) (below_lowest (steps log) (own_fault log) k (omega (arith, not_upto→ q)))))
