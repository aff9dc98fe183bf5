-- Giving back always ends with some set, and for a log already fine with none.
use mathlib.Core.Path.{◌≡◌, refl, sym, ap, subst, fun_ext, ◌∙◌}
use mathlib.Core.Bool.{Bool, true, false}
use mathlib.Core.Logic.{◌⊎◌, inl, inr, ⊎_elim}
use mathlib.Core.List.{List}
use Prim.Native.Nat.{ℕ, zero, suc, ◌<◌, ◌≤◌}
use native.Mathlib.Omega.{arith}
use lib.ListN.{length, replicate, length-replicate}
use Rattle.words.specs.Tests.{◌is◌, count}
use Rattle.verdict.specs.Limits.{transactions}
use Rattle.verdict.specs.Log.{committed}
use Rattle.verdict.specs.Refusal.{log_refusal}
use Rattle.verdict.specs.Answers.{Passed}
use Rattle.words.proofs.Truth.{decide, not_both, to_false, is→, isnt→, count_without, none_counted}
use Rattle.words.proofs.Counting.{count_most}
use Rattle.verdict.proofs.WellFormed.{well_formed}
use Rattle.verdict.proofs.Versions.{committed_range}
use Rattle.verdict.proofs.Some.{version_some}
use Rattle.plan.specs.TakenBack.{taken_back, ◌but◌}
use Rattle.plan.specs.Fine.{Fine}
use Rattle.plan.specs.WillDo.{Needs}
use Rattle.plan.specs.Redo.{GivesBack, no_more, one_more}
use Rattle.plan.specs.Inner.Marks.{table, marked}
use Rattle.plan.specs.Inner.Trials.{Within}
use Rattle.plan.specs.Inner.Planning.{Planned}
use Rattle.plan.proofs.MarkLaws.{zeros_unmarked}
use Rattle.plan.proofs.ChangedLog.{changed, well_changed}
use Rattle.plan.proofs.Inside.{but→, none_inside}
use Rattle.plan.proofs.AllBack.{all_back_fine}
use Rattle.plan.proofs.Choice.{gives_within, gives_right}
use Rattle.plan.proofs.Trying.{Told, told_fine, told_cycle, told_unclean, told}

module _ (log : List ℕ) (well : log_refusal log ≡ Passed) where
  -- a changed log is fine, or it is not
  fine_or_not : (back : ℕ → Bool) → Fine transactions (taken_back back log) ⊎ (Fine transactions (taken_back back log) → ⊥)
  fine_or_not back =
      let v = version_some (taken_back back log) (well_formed _ (well_changed (changed back log) well)) in
      go (told {log = log} {back = back} (record { outcome = v.0; right = v.1; says = refl }))
    where
      go : {a : _} → Told log back a → Fine transactions (taken_back back log) ⊎ (Fine transactions (taken_back back log) → ⊥)
      go (told_fine n e f) = inl f
      go (told_cycle n e c f) = inr f
      go (told_unclean n e c f) = inr f

  -- nobody below n can be given back; and the lowest that can
  abbrev NoneBelow : (ℕ → Bool) → ℕ → Type 0
  NoneBelow back n = (u : ℕ) → u < n → back u ≡ true → Needs transactions log back u

  abbrev Lowest : (ℕ → Bool) → Type 0
  Lowest back = (t : ℕ) × (back t ≡ true) × Fine transactions (taken_back (back but t) log) × NoneBelow back t

  search : (back : ℕ → Bool) (k : ℕ) → Lowest back ⊎ NoneBelow back k
  search back zero = inr (λ (u : ℕ) (h : u < 0). absurd (omega arith))
  search back (suc k) = go (search back k) (decide (back k)) (fine_or_not (back but k))
    where
      more : NoneBelow back k → (back k ≡ true → Needs transactions log back k) → NoneBelow back (suc k)
      more n f u h b =
          ⊎_elim (λ (e : (u is k) ≡ true). let z : u ≡ k = is→ e in subst (λ (a : ℕ). Needs transactions log back a) (sym z) (f (subst (λ (a : ℕ). back a ≡ true) z b)))
          (λ (e : (u is k) ≡ false). let z : u ≡ k → ⊥ = isnt→ e in n u (omega arith) b) (decide (u is k))

      go : Lowest back ⊎ NoneBelow back k → (back k ≡ true) ⊎ (back k ≡ false) → Fine transactions (taken_back (back but k) log) ⊎ (Fine transactions (taken_back (back but k) log) → ⊥)
          → Lowest back ⊎ NoneBelow back (suc k)
      go (inl l) b f = inl l
      go (inr n) (inl b) (inl f) = inl (k, b, f, n)
      go (inr n) (inl b) (inr f) = inr (more n (λ _. f))
      go (inr n) (inr b) f = inr (more n (λ c. absurd (not_both c b)))

  -- giving back ends: n bounds how many are taken back
  gives_some : (n : ℕ) (back : ℕ → Bool) → count table back ≤ n → ((t : ℕ) → back t ≡ true → committed log t ≡ true) → (rest : ℕ → Bool) × GivesBack transactions log back rest
  unfolding ◌but◌
  gives_some zero back h those =
      (back, no_more (λ t b. absurd (not_both b (none_counted table back (omega arith) t (omega (arith, (committed_range log (well_formed log well) t (those t b)).1))))))
  gives_some (suc n) back h those = go (search back table) (λ p l f. gives_some n p l f)
    where
      inside : (t : ℕ) → back t ≡ true → t < table
      inside t b = omega (arith, (committed_range log (well_formed log well) t (those t b)).1)

      go : Lowest back ⊎ NoneBelow back table → ((p : ℕ → Bool) → count table p ≤ n → ((t : ℕ) → p t ≡ true → committed log t ≡ true) → (rest : ℕ → Bool) × GivesBack transactions log p rest) → (rest : ℕ → Bool) × GivesBack transactions log back rest
      go (inl r) again =
          let t = r.0 in
          let e : suc (count table (back but t)) ≡ count table back = count_without table back t (inside t r.1) r.1 in
          let g = again (back but t) (omega arith) (λ u b. those u (but→ back t u b).0) in
          (g.0, one_more t r.1 r.2 r.3 g.1)
      go (inr f) again = (back, no_more (λ t b. f t (inside t b) b))

  -- for a log already fine nobody is left
  pub nothing_left : (marks : List ℕ) → marks ≡ replicate table 0 → Fine transactions (taken_back (marked marks) log) → Planned log marks
  nothing_left marks z f =
      let g = gives_some table (committed log) (count_most table (committed log)) (λ t b. b) in
      let rest = g.0 in
      let none : (t : ℕ) → marked marks t ≡ false = λ t. ap (λ (l : List ℕ). marked l t) z ∙ zeros_unmarked table t in
      let gone : Within rest (marked marks) = none_inside log well (marked marks) rest (λ u b. absurd (not_both b (none u))) (gives_within transactions log g.1) f (gives_right transactions log (all_back_fine log well) g.1) in
      let e : rest ≡ marked marks = fun_ext (λ t. to_false (rest t) (λ b. not_both (gone t b) (none t)) ∙ sym (none t)) in
      record { size = ap length z ∙ length-replicate {A = ℕ} table 0; none_0 = none 0; ends = subst (GivesBack transactions log (committed log)) e g.1 }
