-- What the version verdict's answer tells of a log with some transactions taken back.
use Rattle.std.specs.Prelude.{Result, Ok, Err}
use Rattle.std.specs.Result.{result_unwrap_or}
use mathlib.Core.Path.{◌≡◌, refl, ap, subst, ◌∙◌}
use mathlib.Core.Bool.{Bool, true, false}
use mathlib.Core.Logic.{◌⊎◌, inl, inr}
use mathlib.Core.List.{List}
use Prim.Native.Nat.{ℕ, ◌<◌}
use native.Mathlib.Omega.{arith}
use lib.ListN.{length}
use Rattle.words.specs.Tests.{provided◌then◌else◌, lowest}
use Rattle.verdict.specs.Limits.{transactions, work_bytes, witness_buffer}
use Rattle.verdict.specs.Log.{steps, aborted, src}
use Rattle.verdict.specs.Clean.{fault_step, after_own_write, faulty_read, is_clean, fault_at, cleanness}
use Rattle.verdict.specs.Outcome.{Outcome, said, shows_order, shows_cycle}
use Rattle.verdict.specs.Version.{Version, version, version_unclean}
use Rattle.verdict.specs.Call.{VersionCall, turned_away, answered}
use Rattle.verdict.specs.Refusal.{log_refusal}
use Rattle.verdict.specs.Answers.{Passed}
use Rattle.verdict.specs.declared.answers.Fault.{Fault}
use Rattle.verdict.specs.declared.answers.Fault.TheVariants.{Own, Aborted, Unfinal}
use Rattle.verdict.specs.declared.answers.Cleanness.TheVariants as cleanness_is
use Rattle.verdict.specs.declared.answers.Answer.{Answer}
use Rattle.verdict.specs.declared.answers.Answer.TheVariants.{Order, Cycle, None, Unclean}
use Rattle.verdict.specs.declared.answers.Refusal.{Refusal}
use Rattle.words.proofs.Truth.{decide, not_fails→, provided_false, lowest_is}
use Rattle.verdict.proofs.WellFormed.{refused≢passed}
use Rattle.verdict.proofs.Cleanly.{cleanness_clean, clean_cleanness, clean≢unclean}
use Rattle.verdict.proofs.Frame.{work_passed, witness_passed, both_passed}
use Rattle.verdict.proofs.Held.{call_judged}
use Rattle.verdict.proofs.Only.{version_one}
use Rattle.plan.specs.TakenBack.{taken_back}
use Rattle.plan.specs.Fine.{Fine}
use Rattle.plan.specs.Inner.Trials.{Shown}

-- A CALL OF `version`
module _ {log work witness work' witness' : List ℕ} where
  pub shown_judged : {back : ℕ → Bool} {log₀ : List ℕ} {a : Answer} → log ≡ taken_back back log₀ → VersionCall log work witness (Ok a) work' witness' → Shown log₀ back a
  shown_judged e call =
      let j = call_judged (log_refusal log) call in
      record { outcome = j.0; right = subst (λ (l : List ℕ). Version transactions l j.0) e j.2; says = j.3 }

  -- with buffers of the right length it is not turned away
  pub never_refused : {f : Refusal} → log_refusal log ≡ Passed → length work ≡ work_bytes → length witness ≡ witness_buffer
      → VersionCall log work witness (Err f) work' witness' → ⊥
  never_refused well p q (turned_away m k g x y) = refused≢passed (g ∙ both_passed (work_passed work p) (both_passed (witness_passed witness q) well))
  never_refused well p q (answered o g v x y) = let z : ◌≡◌ {A = ℕ} 0 1 = cc in omega arith

-- what it shows of a log that is not turned away
pub shown_after : {log work witness work' witness' log₀ : List ℕ} {back : ℕ → Bool} → log_refusal log ≡ Passed → log ≡ taken_back back log₀
    → length work ≡ work_bytes → length witness ≡ witness_buffer → (r : Result Answer Refusal) → VersionCall log work witness r work' witness'
    → Shown log₀ back (result_unwrap_or r None)
shown_after well e p q (Ok a) call = shown_judged e call
shown_after well e p q (Err f) call = absurd (never_refused well p q call)

-- THE READ AT FAULT
step_at : (log : List ℕ) (k : ℕ) → fault_step (fault_at log k) ≡ k
unfolding fault_step fault_at provided◌then◌else◌
step_at log k = go (after_own_write log k) (aborted log (src log k))
  where
    go : (a b : Bool) → fault_step (provided a then Own k else provided b then Aborted k else Unfinal k) ≡ k
    go true b = refl
    go false true = refl
    go false false = refl

pub fault_there : (log : List ℕ) (f : Fault) → cleanness log ≡ cleanness_is.Unclean f → (fault_step f < steps log) × (faulty_read log (fault_step f) ≡ true)
unfolding is_clean
fault_there log f c = go (decide (is_clean log))
  where
    k : ℕ
    k = lowest (steps log) (faulty_read log)

    go : (is_clean log ≡ true) ⊎ (is_clean log ≡ false) → (fault_step f < steps log) × (faulty_read log (fault_step f) ≡ true)
    go (inl y) = absurd (clean≢unclean (clean_cleanness log y) c)
    go (inr y) =
        let e : cleanness log ≡ cleanness_is.Unclean (fault_at log (lowest (steps log) (faulty_read log))) = unfold cleanness in (provided_false _ _ y) in
        let g : f ≡ fault_at log (lowest (steps log) (faulty_read log)) = cc in
        let s : fault_step f ≡ lowest (steps log) (faulty_read log) = ap fault_step g ∙ step_at log (lowest (steps log) (faulty_read log)) in
        let r = lowest_is (faulty_read log) (not_fails→ y) in
        rw s (r.0, r.1)

-- WHAT THE ANSWER TELLS
pub data Told (log : List ℕ) (back : ℕ → Bool) (a : Answer) : Type 0 where
  told_fine : (n : ℕ) → a ≡ Order n → Fine transactions (taken_back back log) → Told log back a
  told_cycle : (n : ℕ) → a ≡ Cycle n → is_clean (taken_back back log) ≡ true → (Fine transactions (taken_back back log) → ⊥) → Told log back a
  told_unclean : (f : Fault) → a ≡ Unclean f → cleanness (taken_back back log) ≡ cleanness_is.Unclean f → (Fine transactions (taken_back back log) → ⊥) → Told log back a

pub told : {log : List ℕ} {back : ℕ → Bool} {a : Answer} → Shown log back a → Told log back a
unfolding said
told {log} {back} {a} s = go s.outcome s.right s.says
  where
    go : (o : Outcome) → Version transactions (taken_back back log) o → a ≡ said o → Told log back a
    go o (version c (shows_order {w} x)) e = told_fine (length w) e (record { members = w; shown = version c (shows_order x) })
    go o (version c (shows_cycle x)) e =
        told_cycle _ e (cleanness_clean _ c) (λ f. let q = version_one f.shown (version c (shows_cycle x)) in let z : ◌≡◌ {A = ℕ} 0 1 = cc in omega arith)
    go o (version_unclean {f} u) e = told_unclean f e u (λ g. let q = version_one g.shown (version_unclean u) in let z : ◌≡◌ {A = ℕ} 0 1 = cc in omega arith)

-- whether it is fine
module _ {log : List ℕ} {back : ℕ → Bool} {a : Answer} (s : Shown log back a) where
  pub fine_told : {n : ℕ} → a ≡ Order n → Fine transactions (taken_back back log)
  fine_told {n} e = go (told s)
    where
      go : Told log back a → Fine transactions (taken_back back log)
      go (told_fine m g f) = f
      go (told_cycle m g c f) = let z : ◌≡◌ {A = ℕ} 0 1 = cc in absurd (omega arith)
      go (told_unclean m g c f) = let z : ◌≡◌ {A = ℕ} 0 1 = cc in absurd (omega arith)

  pub not_fine_told : ((n : ℕ) → a ≡ Order n → ⊥) → Fine transactions (taken_back back log) → ⊥
  not_fine_told n = go (told s)
    where
      go : Told log back a → Fine transactions (taken_back back log) → ⊥
      go (told_fine m g f) = absurd (n m g)
      go (told_cycle m g c f) = f
      go (told_unclean m g c f) = f

pub cycle≢order : {a : Answer} {m n : ℕ} → a ≡ Cycle m → a ≡ Order n → ⊥
cycle≢order e f = let z : ◌≡◌ {A = ℕ} 0 1 = cc in omega arith

pub none≢order : {a : Answer} {n : ℕ} → a ≡ None → a ≡ Order n → ⊥
none≢order e f = let z : ◌≡◌ {A = ℕ} 0 1 = cc in omega arith

pub unclean≢order : {a : Answer} {f : Fault} {n : ℕ} → a ≡ Unclean f → a ≡ Order n → ⊥
unclean≢order e f = let z : ◌≡◌ {A = ℕ} 0 1 = cc in omega arith
