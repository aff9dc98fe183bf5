-- Why one that cannot be given back now has to wait: for the source of a read at fault, or for good.
use mathlib.Core.Path.{◌≡◌}
use mathlib.Core.Bool.{Bool, true, false}
use mathlib.Core.Logic.{◌⊎◌, inl, inr}
use mathlib.Core.List.{List}
use Prim.Native.Nat.{ℕ, ◌<◌}
use Rattle.words.specs.Tests.{◌is◌, provided◌then◌else◌}
use Rattle.verdict.specs.Limits.{transactions}
use Rattle.verdict.specs.Log.{steps, tx, src}
use Rattle.verdict.specs.Clean.{judged_other, faulty_read, is_clean}
use Rattle.verdict.specs.Refusal.{log_refusal}
use Rattle.verdict.specs.Answers.{Passed}
use Rattle.words.proofs.Truth.{decide, not_both, to_false, is→, isnt→, provided_true}
use Rattle.plan.specs.TakenBack.{taken_back, ◌but◌}
use Rattle.plan.specs.Fine.{Fine}
use Rattle.plan.specs.Inner.Trials.{Within, Waits}
use Rattle.plan.proofs.ChangedLog.{Changed, changed, well_changed, still_committed}
use Rattle.plan.proofs.CleanReads.{clean_sound, →sound, faulty_judged, judged_after, still_judged, sound_more}
use Rattle.plan.proofs.Inside.{fine_clean, but_other, but→, but_not, but_itself}
use Rattle.plan.proofs.Restricted.{fine_within}

module _ (log : List ℕ) (well : log_refusal log ≡ Passed) (back : ℕ → Bool) (t : ℕ) where
  abbrev others : List ℕ
  others = taken_back (back but t) log

  -- where the others are clean and yet not fine, there is a cycle: t waits for itself, which is for good
  pub waits_for_good : is_clean others ≡ true → (Fine transactions others → ⊥) → Waits log back t t
  waits_for_good clean not_fine fewer within a b f =
      not_fine (fine_within log well (fewer but t) (back but t) (λ (u : ℕ) (h : (fewer but t) u ≡ true). let r = but→ fewer t u h in but_other back t u r.1 (within u r.0)) f clean)

  -- a read at fault
  module _ (fine : Fine transactions (taken_back back log)) (k : ℕ) (h : k < steps log) (fault : faulty_read others k ≡ true) where
    c : Changed (back but t) log others
    c = changed (back but t) log

    judged : (judged_other log k ≡ true) × ((back but t) (tx log k) ≡ false)
    judged = judged_after c k h (faulty_judged others k fault)

    -- it is one of t, since the others' are sound while t is taken back
    of_t : tx log k ≡ t
    of_t = go (decide (tx log k is t))
      where
        d : Changed back log (taken_back back log)
        d = changed back log

        go : ((tx log k is t) ≡ true) ⊎ ((tx log k is t) ≡ false) → tx log k ≡ t
        go (inl e) = is→ e
        go (inr e) =
            let b : back (tx log k) ≡ false = to_false _ (λ m. not_both (but_other back t (tx log k) (isnt→ e) m) judged.1) in
            let s = clean_sound (taken_back back log) (fine_clean _ (well_changed d well) fine) k (rw d.size h) (still_judged d k h judged.0 b) in
            absurd (not_both fault (→sound others k (sound_more d c k h (λ m. but_not back t (src log k) (still_committed d (src log k) m).1) s)))

    -- it stays at fault while its source is taken back, if it is
    stays : (fewer : ℕ → Bool) → Within fewer back → (back (src log k) ≡ true → fewer (src log k) ≡ true) → Fine transactions (taken_back (fewer but t) log) → ⊥
    stays fewer within source f =
        let d = changed (fewer but t) log in
        let j : judged_other (taken_back (fewer but t) log) k ≡ true = still_judged d k h judged.0 (rw of_t (but_itself fewer t)) in
        let s = clean_sound (taken_back (fewer but t) log) (fine_clean _ (well_changed d well) f) k (rw d.size h) j in
        not_both fault (→sound others k (sound_more d c k h (λ m. to_false _ (λ z. let r = but→ back t (src log k) z in not_both (but_other fewer t (src log k) r.1 (source r.0)) (still_committed d (src log k) m).1)) s))

    -- so t waits for the source, if that is taken back, and else for good
    pub waits_for_source : Waits log back t (provided back (src log k) then src log k else t)
    waits_for_source = go (decide (back (src log k)))
      where
        go : (back (src log k) ≡ true) ⊎ (back (src log k) ≡ false) → Waits log back t (provided back (src log k) then src log k else t)
        go (inl e) fewer within a b = stays fewer within (λ _. rw (provided_true (src log k) t e) at b)
        go (inr e) fewer within a b = stays fewer within (λ z. absurd (not_both z e))
