-- The marks of those that committed, one step more.
use mathlib.Core.Path.{◌≡◌, sym, ap, ◌∙◌}
use mathlib.Core.Bool.{true, false}
use mathlib.Core.Logic.{◌⊎◌, inl, inr}
use mathlib.Core.List.{List}
use Prim.Native.Nat.{ℕ, ◌+◌, ◌<◌}
use lib.ListN.{length, set, replicate, length-set, length-replicate}
use Rattle.words.specs.Tests.{◌is◌, ◌and◌, ◌or◌, fails, some}
use Rattle.verdict.specs.Log.{steps, kind, tx, commits, committed}
use Rattle.words.proofs.Truth.{decide, →and, →or_right, or_no, and_no_left, and_no_right, is→, →is, isnt→, →isnt, some_next, some_skip}
use Rattle.plan.specs.Inner.Marks.{table, marked, Until, Committed}
use Rattle.plan.proofs.MarkLaws.{zeros_unmarked, marked_set_same, marked_set_other}

module _ (log : List ℕ) (i : ℕ) (marks : List ℕ) (u : Until log i marks) where
  pub commit_noted : kind log i ≡ 4 → (t : ℕ) → t ≡ tx log i → t < table → Until log (i + 1) (set marks t 1)
  unfolding commits fails ◌is◌
  commit_noted k t e h =
      record {
        size = length-set marks t 1 ∙ u.size;
        each = λ a. go a (decide (a is t)) ∙ sym (some_next i (commits log a));
      }
    where
      go : (a : ℕ) → ((a is t) ≡ true) ⊎ ((a is t) ≡ false) → marked (set marks t 1) a ≡ (some i (commits log a) or (kind log i is 4 and tx log i is a))
      go a (inl z) =
          let y : a ≡ t = is→ z in
          ap (marked (set marks t 1)) y ∙ marked_set_same marks t 1 (rw u.size h) ∙ sym (→or_right (some i (commits log a)) (→and (→is k) (→is (sym e ∙ sym y))))
      go a (inr z) =
          marked_set_other marks t 1 a (isnt→ z) ∙ u.each a
          ∙ sym (or_no (some i (commits log a)) (and_no_right _ (→isnt (λ (y : tx log i ≡ a). isnt→ z (sym y ∙ sym e)))))

  pub other_noted : (kind log i ≡ 4 → ⊥) → Until log (i + 1) marks
  unfolding commits
  other_noted k = record { size = u.size; each = λ t. u.each t ∙ sym (some_skip i (commits log t) (and_no_left _ (→isnt k))) }

-- nobody commits before the first step, and in all steps those that do
pub none_noted : (log marks : List ℕ) → marks ≡ replicate table 0 → Until log 0 marks
unfolding some
none_noted log marks e = record { size = ap length e ∙ length-replicate {A = ℕ} table 0; each = λ t. ap (λ (m : List ℕ). marked m t) e ∙ zeros_unmarked table t }

pub all_noted : (log : List ℕ) (i : ℕ) (marks : List ℕ) → i ≡ steps log → Until log i marks → Committed log marks
unfolding committed
all_noted log i marks e u = record { size = u.size; each = λ t. u.each t ∙ ap (λ (n : ℕ). some n (commits log t)) e }
