-- The numbers 1 to 3, 7 to 9 and 11, from the answers to the questions that decide them.
use mathlib.Core.Path.{◌≡◌, sym, ap, ◌∙◌}
use mathlib.Core.Bool.{true, false}
use mathlib.Core.Logic.{◌⊎◌, ⊎_elim}
use mathlib.Core.List.{List}
use Prim.Native.Nat.{ℕ, suc, ◌%◌}
use lib.ListN.{length, get_or}
use Rattle.words.specs.Tests.{◌is◌, ◌upto◌, ◌and◌, fails}
use Rattle.words.proofs.Truth.{→and, and_no_left, and_no_right, →or_left, →or_right, or_no, →fails, →not_fails, →is, →isnt, →below, →not_below, upto→, not_upto→}
use Rattle.verdict.specs.Limits.{transactions, most_steps}
use Rattle.verdict.specs.Log.{steps, kind, tx, obj, src, begun, ended, wrote}
use Rattle.verdict.specs.Answers.{Checked, Passed, Refused}
use Rattle.verdict.specs.Refusal.{◌else_try◌, tried, range_refusal, life_refusal, source_refusal, step_refusal, open_refusal, log_refusal}
use Rattle.verdict.specs.Inner.Checking.{open_by_lives}
use Rattle.verdict.proofs.Refused.{when_yes, when_no, first_yes, first_no, tried_refused, try_none}

module _ (log : List ℕ) (i : ℕ) where
  -- 3
  pub no_such_kind : (1 upto kind log i and kind log i upto 5) ≡ false → step_refusal log i ≡ Refused 3 i
  unfolding step_refusal range_refusal
  no_such_kind n = tried_refused _ (first_yes 3 i _ (→fails n))

  -- 7 and 8
  pub begun_again : kind log i ≡ 1 → begun log i (tx log i) ≡ true → life_refusal log i ≡ Refused 7 i
  unfolding life_refusal
  begun_again k b = first_yes 7 i _ (→and (→is k) b)

  pub begins_now : kind log i ≡ 1 → begun log i (tx log i) ≡ false → life_refusal log i ≡ Passed
  unfolding life_refusal
  begins_now k b = first_no 7 i _ (and_no_right _ b) ∙ when_no 8 i (and_no_left _ (→not_fails (→is k)))

  -- another step than a begin
  module _ (k : kind log i ≡ 1 → ⊥) where
    not_7 : (kind log i is 1 and begun log i (tx log i)) ≡ false
    not_7 = and_no_left _ (→isnt k)

    pub not_begun : begun log i (tx log i) ≡ false → life_refusal log i ≡ Refused 8 i
    unfolding life_refusal
    not_begun b = first_no 7 i _ not_7 ∙ when_yes 8 i (→and (→fails (→isnt k)) (→or_left _ (→fails b)))

    pub has_ended : ended log i (tx log i) ≡ true → life_refusal log i ≡ Refused 8 i
    unfolding life_refusal
    has_ended e = first_no 7 i _ not_7 ∙ when_yes 8 i (→and (→fails (→isnt k)) (→or_right _ e))

    pub under_way : begun log i (tx log i) ≡ true → ended log i (tx log i) ≡ false → life_refusal log i ≡ Passed
    unfolding life_refusal
    under_way b e = first_no 7 i _ not_7 ∙ when_no 8 i (and_no_right _ (or_no _ e ∙ →not_fails b))

  -- 9, which only a read can get
  no_read : (kind log i ≡ 2 → ⊥) → source_refusal log i ≡ Passed
  unfolding source_refusal
  no_read k = when_no 9 i (and_no_left _ (and_no_left _ (→isnt k)))

  pub no_source : (kind log i ≡ 2 → ⊥) → (range_refusal i (kind log i) (tx log i) (obj log i) (src log i) else_try life_refusal log i) ≡ step_refusal log i
  unfolding step_refusal
  no_source k =
      ap (λ (r : Checked). range_refusal i (kind log i) (tx log i) (obj log i) (src log i) else_try r)
      (sym (ap (λ (r : Checked). life_refusal log i else_try r) (no_read k) ∙ try_none (life_refusal log i)))

  module _ (k : kind log i ≡ 2) where
    pub never_wrote : (src log i ≡ 0 → ⊥) → wrote log i (src log i) (obj log i) ≡ false → source_refusal log i ≡ Refused 9 i
    unfolding source_refusal
    never_wrote z w = when_yes 9 i (→and (→and (→is k) (→fails (→isnt z))) (→fails w))

    pub source_there : (src log i ≡ 0) ⊎ (wrote log i (src log i) (obj log i) ≡ true) → source_refusal log i ≡ Passed
    unfolding source_refusal
    source_there t = when_no 9 i (⊎_elim (λ z. and_no_left _ (and_no_right _ (→not_fails (→is z)))) (λ w. and_no_right _ (→not_fails w)) t)

-- 11, by how far each has come
module _ (lives : List ℕ) (t : ℕ) where
  pub still_open : get_or lives t 0 ≡ 1 → open_by_lives lives t ≡ Refused 11 t
  unfolding open_by_lives
  still_open e = when_yes 11 t (→is e)

  pub not_open : (get_or lives t 0 ≡ 1 → ⊥) → open_by_lives lives t ≡ Passed
  unfolding open_by_lives
  not_open n = when_no 11 t (→isnt n)

-- THE WHOLE LOG
module _ (log : List ℕ) where
  pub odd_length : (length log % 4 ≡ 0 → ⊥) → log_refusal log ≡ Refused 1 0
  unfolding log_refusal
  odd_length n = first_yes 1 0 _ (→fails (→isnt n))

  module _ (whole : length log % 4 ≡ 0) where
    not_1 : fails (length log % 4 is 0) ≡ false
    not_1 = →not_fails (→is whole)

    pub too_long : (steps log upto most_steps) ≡ false → log_refusal log ≡ Refused 2 0
    unfolding log_refusal
    too_long m = first_no 1 0 _ not_1 ∙ first_yes 2 0 _ (→below (not_upto→ m))

    -- the steps decide, and after the last the transactions begun and not ended
    pub by_steps : (steps log upto most_steps) ≡ true → log_refusal log ≡ (tried (steps log) (step_refusal log) else_try tried (suc transactions) (open_refusal log))
    unfolding log_refusal
    by_steps within = first_no 1 0 _ not_1 ∙ first_no 2 0 _ (→not_below (upto→ within))
