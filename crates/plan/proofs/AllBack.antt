-- With every commit taken back the log is fine, and with none it is the log itself.
use mathlib.Core.Path.{◌≡◌, refl, sym, ap, ◌∙◌}
use mathlib.Core.Bool.{Bool, true, false, false≢true}
use mathlib.Core.List.{List, [], ◌∷◌, ◌++◌}
use Prim.Native.Nat.{ℕ, zero, suc, ◌+◌, ◌*◌, ◌<◌, ◌≤◌}
use native.Mathlib.Omega.{arith}
use lib.ListN.{length, get_or, take}
use lib.Seq.{take-suc, take-length, append_snoc}
use Rattle.words.specs.Lists.{member, all, distinct}
use Rattle.verdict.specs.Limits.{transactions}
use Rattle.verdict.specs.Log.{steps, kind, tx, obj, src, committed}
use Rattle.verdict.specs.Clean.{judged, judged_other}
use Rattle.verdict.specs.Replay.{reads_right, writers_in_order, explains_loosely, explains}
use Rattle.verdict.specs.Refusal.{log_refusal}
use Rattle.verdict.specs.Answers.{Passed}
use Rattle.words.proofs.Truth.{not_both, and→, →and, →implies, →every, and_no_right}
use Rattle.verdict.proofs.WellFormed.{well_formed, whole_steps}
use Rattle.verdict.proofs.Serial.{→serial}
use Rattle.plan.specs.TakenBack.{steps_after, taken_back}
use Rattle.plan.specs.Fine.{Fine}
use Rattle.plan.proofs.ChangedLog.{Changed, changed, well_changed, kind_kept, still_committed}
use Rattle.plan.proofs.CleanReads.{sound_clean}
use Rattle.plan.proofs.Explained.{explained_fine}

module _ (log : List ℕ) (well : log_refusal log ≡ Passed) where
  c : Changed (committed log) log (taken_back (committed log) log)
  c = changed (committed log) log

  -- nobody commits, so no read is judged
  nobody : (t : ℕ) → committed (taken_back (committed log) log) t ≡ true → ⊥
  nobody t k = let r = still_committed c t k in not_both r.0 r.1

  none_judged : (i : ℕ) → i < steps (taken_back (committed log) log) → judged_other (taken_back (committed log) log) i ≡ true → ⊥
  unfolding judged_other judged
  none_judged i h j = nobody _ (and→ (and→ j).0).1

  pub all_back_fine : Fine transactions (taken_back (committed log) log)
  unfolding explains explains_loosely reads_right writers_in_order distinct all member
  all_back_fine =
      let log' = taken_back (committed log) log in
      let well' = well_formed log' (well_changed c well) in
      explained_fine log' well' []
      (→and (→and (→and (sound_clean log' (λ i h j. absurd (none_judged i h j)))
      (→serial log' well' [] refl (λ t m. absurd (false≢true m)) (λ t k. absurd (nobody t k))))
      (→every _ (λ i h. →implies (λ j. absurd (none_judged i h j))))) refl)

  -- NONE TAKEN BACK
  none : ℕ → Bool
  none t = false

  first_steps : (n : ℕ) → n ≤ steps log → steps_after none log n ≡ take (4 * n) log
  unfolding steps_after steps kind tx obj src none
  first_steps zero h = refl
  first_steps (suc n) h =
      let w : length log ≡ 4 * steps log = whole_steps log well in
      let e : 4 * suc n ≡ suc (suc (suc (suc (4 * n)))) = omega arith in
      let a : 4 * n + 1 ≡ suc (4 * n) = omega arith in
      let b : 4 * n + 2 ≡ suc (suc (4 * n)) = omega arith in
      let d : 4 * n + 3 ≡ suc (suc (suc (4 * n))) = omega arith in
      let l = take (4 * n) log in
      let k = get_or log (4 * n) 0 in
      let t = get_or log (suc (4 * n)) 0 in
      let x = get_or log (suc (suc (4 * n))) 0 in
      let s = get_or log (suc (suc (suc (4 * n)))) 0 in
      rw (e, first_steps n (omega arith), kind_kept none log n (and_no_right _ refl), take-suc log (suc (suc (suc (4 * n)))) 0 (omega arith), take-suc log (suc (suc (4 * n))) 0 (omega arith), take-suc log (suc (4 * n)) 0 (omega arith), take-suc log (4 * n) 0 (omega arith), a, b, d)
      (sym (append_snoc (l ++ (k ∷ []) ++ (t ∷ [])) x (s ∷ []) ∙ append_snoc (l ++ (k ∷ [])) t (x ∷ s ∷ []) ∙ append_snoc l k (t ∷ x ∷ s ∷ [])))

  pub none_back : taken_back (λ t. false) log ≡ log
  unfolding taken_back none
  none_back = let w : length log ≡ 4 * steps log = whole_steps log well in first_steps (steps log) (omega arith) ∙ ap (λ (n : ℕ). take n log) (sym w) ∙ take-length log
