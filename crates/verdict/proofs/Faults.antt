-- The clean verdict at a step and of a log, from the answers to the questions that decide it.
use mathlib.Core.Path.{◌≡◌, refl, ap, ◌∙◌}
use mathlib.Core.Bool.{Bool, true, false}
use mathlib.Core.List.{List}
use Prim.Native.Nat.{ℕ, ◌≤◌, ◌<◌}
use native.Mathlib.Omega.{arith}
use Rattle.words.specs.Tests.{◌upto◌, fails, provided◌then◌else◌, lowest}
use Rattle.words.proofs.Truth.{to_false, not_both, and→, →and, and_no_left, and_no_right, and_true, →or_left, or_false, →fails, →not_fails, →is, →isnt, →upto, →not_upto, provided_true, provided_false, lowest_is, lowest_passes, lowest_bound, lowest_some, below_lowest}
use Rattle.words.proofs.Either.{lowest_either}
use Rattle.verdict.specs.Log.{steps, obj, src, committed, aborted}
use Rattle.verdict.specs.declared.answers.Fault.TheVariants.{Own, Aborted, Unfinal}
use Rattle.verdict.specs.declared.answers.Cleanness.TheVariants.{Yes, Unclean}
use Rattle.verdict.specs.Clean.{judged_other, writes_later, final_source, own_fault, source_fault, faulty_read, is_clean, fault_at, cleanness}

module _ (log : List ℕ) (i : ℕ) where
  pub not_faulty : judged_other log i ≡ false → source_fault log i ≡ false
  unfolding source_fault
  not_faulty j = and_no_left _ j

  pub source_zero : src log i ≡ 0 → source_fault log i ≡ false
  unfolding source_fault final_source
  source_zero z = and_no_right _ (→not_fails (→or_left _ (→is z)))

  -- a judged read from another than 0
  module _ (is_judged : judged_other log i ≡ true) (z : src log i ≡ 0 → ⊥) where
    pub source_open : committed log (src log i) ≡ false → source_fault log i ≡ true
    unfolding source_fault final_source
    source_open u = →and is_judged (→fails (or_false (→isnt z) ∙ and_no_left _ u))

    pub source_later : committed log (src log i) ≡ true → source_fault log i ≡ writes_later log i (src log i) (obj log i)
    unfolding source_fault final_source
    source_later u = and_true is_judged ∙ ap fails (or_false (→isnt z) ∙ and_true u) ∙ twice (writes_later log i (src log i) (obj log i))
      where
        twice : (b : Bool) → fails (fails b) ≡ b
        twice true = unfold fails in refl
        twice false = unfold fails in refl

  -- a faulty read is a judged one from another than 0
  pub faulty_judged : source_fault log i ≡ true → judged_other log i ≡ true
  unfolding source_fault
  faulty_judged f = (and→ f).0

  pub faulty_source : source_fault log i ≡ true → src log i ≡ 0 → ⊥
  faulty_source f z = not_both f (source_zero z)

-- the verdict, by the first own fault and the first faulty source
module _ (log : List ℕ) {own k : ℕ} (first_own : own ≡ lowest (steps log) (own_fault log)) (first_source : k ≡ lowest (steps log) (source_fault log)) where
  first : lowest (steps log) (faulty_read log) ≡ (provided own upto k then own else k)
  unfolding faulty_read
  first = rw (first_own, first_source) (lowest_either (steps log) (own_fault log) (source_fault log))

  faulty : (f : ℕ) → lowest (steps log) (faulty_read log) ≡ f → f < steps log → cleanness log ≡ Unclean (fault_at log f)
  unfolding cleanness is_clean
  faulty f e h = provided_false _ _ (→not_fails (lowest_passes (faulty_read log) (rw e h))) ∙ ap (λ (j : ℕ). Unclean (fault_at log j)) e

  -- the own fault comes first, or they are one
  module _ (h : own ≤ k) where
    own_first : lowest (steps log) (faulty_read log) ≡ own
    own_first = first ∙ provided_true _ _ (→upto h)

    pub no_fault : steps log ≤ own → cleanness log ≡ Yes
    unfolding cleanness is_clean
    no_fault n = provided_true _ _ (→fails (lowest_some (faulty_read log) (rw own_first n)))

    pub from_own : own < steps log → cleanness log ≡ Unclean (Own own)
    unfolding fault_at own_fault
    from_own n =
        let there : own_fault log own ≡ true = rw first_own (lowest_is {n = steps log} (own_fault log) (lowest_passes (own_fault log) (omega arith))).1 in
        faulty own own_first n ∙ ap Unclean (provided_true _ _ (and→ {a = judged_other log own} there).1)

  -- the faulty source comes first
  module _ (h : k < own) where
    pub source_in_log : k < steps log
    source_in_log = omega (arith, first_own, lowest_bound {n = steps log} (own_fault log))

    pub faulty_there : source_fault log k ≡ true
    faulty_there = rw first_source (lowest_is {n = steps log} (source_fault log) (lowest_passes (source_fault log) (omega (arith, source_in_log)))).1

    faulty_source_first : cleanness log ≡ Unclean (provided aborted log (src log k) then Aborted k else Unfinal k)
    unfolding fault_at own_fault source_fault
    faulty_source_first =
        faulty k (first ∙ provided_false _ _ (→not_upto h)) source_in_log
        ∙ ap Unclean (provided_false _ _ (to_false _ (λ w. not_both (→and (and→ faulty_there).0 w) (below_lowest (steps log) (own_fault log) k (omega arith)))))

    pub from_aborted : aborted log (src log k) ≡ true → cleanness log ≡ Unclean (Aborted k)
    from_aborted a = faulty_source_first ∙ ap Unclean (provided_true _ _ a)

    pub from_unfinal : aborted log (src log k) ≡ false → cleanness log ≡ Unclean (Unfinal k)
    from_unfinal a = faulty_source_first ∙ ap Unclean (provided_false _ _ a)
