-- Cleanness, the test for it, and what it says of a judged read.
use mathlib.Core.Path.{◌≡◌, refl}
use mathlib.Core.Bool.{Bool, true, false}
use mathlib.Core.Logic.{⊎_elim}
use mathlib.Core.List.{List}
use Prim.Native.Nat.{ℕ, ◌<◌}
use native.Mathlib.Omega.{arith}
use Rattle.words.specs.Tests.{◌is◌, provided◌then◌else◌, lowest}
use Rattle.verdict.specs.Log.{steps, src, committed}
use Rattle.verdict.specs.Clean.{judged_other, final_source, source_fault, faulty_read, is_clean, fault_at, cleanness}
use Rattle.verdict.specs.declared.answers.Fault.{Fault}
use Rattle.verdict.specs.declared.answers.Cleanness.{Cleanness}
use Rattle.verdict.specs.declared.answers.Cleanness.TheVariants.{Yes, Unclean}
use Rattle.words.proofs.Truth.{not_both, to_true, and→, →and, or→, →or_right, fails→, →fails, is→, none→, provided_true}

pub cleanness_clean : (log : List ℕ) → cleanness log ≡ Yes → is_clean log ≡ true
unfolding cleanness provided◌then◌else◌
cleanness_clean log e = go (is_clean log) e
  where
    go : (b : Bool) → (provided b then Yes else Unclean (fault_at log (lowest (steps log) (faulty_read log)))) ≡ Yes → b ≡ true
    go true h = refl
    go false h = let z : ◌≡◌ {A = ℕ} 0 1 = cc in absurd (omega arith)

pub clean_cleanness : (log : List ℕ) → is_clean log ≡ true → cleanness log ≡ Yes
unfolding cleanness
clean_cleanness log h = provided_true Yes (Unclean (fault_at log (lowest (steps log) (faulty_read log)))) h

pub clean≢unclean : {c : Cleanness} {f : Fault} → c ≡ Yes → c ≡ Unclean f → ⊥
clean≢unclean p q = let z : ◌≡◌ {A = ℕ} 0 1 = cc in omega arith

-- in a clean log the source of a judged read from another has committed, or is 0
pub source_committed : (log : List ℕ) → is_clean log ≡ true → (i : ℕ) → i < steps log → judged_other log i ≡ true → (src log i ≡ 0 → ⊥) → committed log (src log i) ≡ true
unfolding is_clean faulty_read source_fault final_source
source_committed log clean i h j z =
    ⊎_elim (λ (k : (src log i is 0) ≡ true). absurd (z (is→ k))) (λ k. (and→ k).0)
    (or→ (to_true (final_source log i) (λ k. not_both (→or_right _ (→and j (→fails k))) (none→ _ (fails→ clean) i h))))
