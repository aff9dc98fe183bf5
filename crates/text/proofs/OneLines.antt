-- One line by itself: it says one thing, what is found at its front says it where nothing stands behind, and none that is in form is longer than the longest.
use Rattle.std.specs.Prelude.{Some}
use mathlib.Core.Path.{◌≡◌, refl, sym, ap, subst, ◌∙◌}
use mathlib.Core.Bool.{Bool, true, false}
use mathlib.Core.List.{List, [], ◌∷◌, ◌++◌, append-nil}
use Prim.Native.Nat.{ℕ, ◌≤◌, ◌<◌}
use native.Mathlib.Omega.{arith}
use lib.ListN.{length, get_or, drop, drop_of_length-le, length-drop}
use Rattle.std.proofs.Common.{inl, inr}
use Rattle.std.proofs.Math.Dec.{leb}
use Rattle.std.proofs.lemmas.Bool.Decides.{leb_tells}
use Rattle.verdict.specs.declared.step.Step.{Step}
use Rattle.text.specs.Bytes.{bytes, line_end}
use Rattle.text.specs.Decimal.{decimal}
use Rattle.text.specs.Line.{item, header, op, line, sayable, sayable_step}
use Rattle.text.specs.Reading.{NoHeader, NoLine}
use Rattle.text.specs.OneLine.{longest_line, IsHeader, IsStep, SaysLine, step_line, header_line, other_line}
use Rattle.text.specs.Inner.Finds.{Finds, FindsHeader, FindsLine}
use Rattle.text.specs.declared.OneLine.{OneLine}
use Rattle.text.specs.declared.OneLine.TheVariants as one_line
use Rattle.text.proofs.Fronts.{sayable→}
use Rattle.text.proofs.Words.{kind_of}
use Rattle.text.proofs.Compare.{header_free, line_free, step→}
use Rattle.text.proofs.Digits.{five_digits, item_length}
use Rattle.text.proofs.Saying.{line_length, front_length}

-- WHAT IS FOUND AT THE FRONT
-- with nothing behind it, it is all
all_of_it : {bytes : List ℕ} (form : List ℕ) (end : ℕ) → length bytes ≤ end → bytes ≡ form ++ drop end bytes → bytes ≡ form
all_of_it {bytes} form end h e = e ∙ ap (λ (u : List ℕ). form ++ u) (drop_of_length-le bytes h) ∙ append-nil form

by_itself : {bytes : List ℕ} (form : List ℕ) → bytes ≡ form → bytes ≡ form ++ []
by_itself form e = e ∙ sym (append-nil form)

-- something stands behind it
not_all : (bytes : List ℕ) (end : ℕ) → end < length bytes → drop end bytes ≡ [] → ⊥
not_all bytes end h e = omega (arith, sym (length-drop end bytes) ∙ ap length e)

module _ (bytes : List ℕ) where
  pub all_header : (n end : ℕ) → Finds header sayable bytes 0 (Some (n, end)) → length bytes ≤ end → IsHeader bytes
  all_header n end f h = record { n = n; fine = f.0; whole = all_of_it (header n) end h f.2 }

  pub header_and_more : (n end : ℕ) → Finds header sayable bytes 0 (Some (n, end)) → end < length bytes → IsHeader bytes → ⊥
  header_and_more n end f h i =
      not_all bytes end h (header_free n i.n (drop end bytes) [] f.0 i.fine (sym f.2 ∙ by_itself (header i.n) i.whole)).1

  -- .. and which of the two it is
  pub header_by_end : (n end : ℕ) → Finds header sayable bytes 0 (Some (n, end)) → FindsHeader bytes (leb (length bytes) end)
  header_by_end n end f = elim (leb_tells (length bytes) end) [
    | inl h ↦ rw h.0 (all_header n end f h.1)
    | inr h ↦ rw h.0 (header_and_more n end f h.1)
  ]

  pub not_header : NoHeader bytes → IsHeader bytes → ⊥
  not_header f i = f i.n [] i.fine (by_itself (header i.n) i.whole)

  pub header_told : {r : Bool} → FindsHeader bytes r → r ≡ true → IsHeader bytes
  header_told f e = subst (FindsHeader bytes) e f

  pub no_header_told : {r : Bool} → FindsHeader bytes r → r ≡ false → IsHeader bytes → ⊥
  no_header_told f e = subst (FindsHeader bytes) e f

  pub all_step : (step : Step) (end : ℕ) → FindsLine bytes 0 (Some (step, end)) → length bytes ≤ end → SaysLine bytes (one_line.Step step.kind step.tx step.obj step.src)
  all_step step end f h = step_line (record { fine = f.0; whole = all_of_it (line step.kind step.tx step.obj step.src) end h f.2 })

  pub step_and_more : (step : Step) (end : ℕ) → FindsLine bytes 0 (Some (step, end)) → end < length bytes → (IsHeader bytes → ⊥) → SaysLine bytes one_line.Other
  step_and_more step end f h none = other_line go none
    where
      go : (k' t' x' s' : ℕ) → IsStep bytes k' t' x' s' → ⊥
      go k' t' x' s' i =
          not_all bytes end h
          (line_free step.kind step.tx step.obj step.src k' t' x' s' (drop end bytes) [] f.0 i.fine (sym f.2 ∙ by_itself (line k' t' x' s') i.whole)).1

  pub not_step : NoLine bytes → (IsHeader bytes → ⊥) → SaysLine bytes one_line.Other
  not_step f none = other_line (λ k t x s i. f k t x s [] i.fine (by_itself (line k t x s) i.whole)) none

-- ANY TWO RESULTS ARE EQUAL
-- a header and a step's line differ in their first byte
header_first : (n : ℕ) → get_or (header n) 0 0 ≡ 115
unfolding header item bytes
header_first n = refl

line_first : (k t x s : ℕ) → get_or (line k t x s) 0 0 ≡ 111
unfolding line op item bytes
line_first k t x s = refl

not_both_forms : {bytes : List ℕ} {k t x s : ℕ} → IsStep bytes k t x s → IsHeader bytes → ⊥
not_both_forms {k} {t} {x} {s} a b =
    let e : ◌≡◌ {A = ℕ} 111 115 = sym (line_first k t x s) ∙ ap (λ (u : List ℕ). get_or u 0 0) (sym a.whole ∙ b.whole) ∙ header_first b.n in
    omega arith

one_step : {bytes : List ℕ} {k t x s k' t' x' s' : ℕ} → IsStep bytes k t x s → IsStep bytes k' t' x' s' → one_line.Step k t x s ≡ one_line.Step k' t' x' s'
one_step {k} {t} {x} {s} {k'} {t'} {x'} {s'} a b =
    let e : k ∷ t ∷ x ∷ s ∷ [] ≡ k' ∷ t' ∷ x' ∷ s' ∷ [] =
    (line_free k t x s k' t' x' s' [] [] a.fine b.fine (ap (λ (u : List ℕ). u ++ []) (sym a.whole ∙ b.whole))).0
    in
    cc

pub says_line_one : {bytes : List ℕ} {r s : OneLine} → SaysLine bytes r → SaysLine bytes s → r ≡ s
says_line_one (step_line a) (step_line b) = one_step a b
says_line_one (step_line a) (header_line b) = absurd (not_both_forms a b)
says_line_one (step_line a) (other_line f g) = absurd (f _ _ _ _ a)
says_line_one (header_line a) (step_line b) = absurd (not_both_forms b a)
says_line_one (header_line a) (header_line b) = refl
says_line_one (header_line a) (other_line f g) = absurd (g a)
says_line_one (other_line f g) (step_line a) = absurd (f _ _ _ _ a)
says_line_one (other_line f g) (header_line a) = absurd (g a)
says_line_one (other_line f g) (other_line f' g') = refl

-- THE LONGEST LINE
sayable_digits : (n : ℕ) → sayable n ≡ true → length (decimal n) ≤ 5
sayable_digits n h = five_digits n (omega (arith, sayable→ n h))

header_length : (n : ℕ) → sayable n ≡ true → length (header n) ≤ longest_line
unfolding header bytes
header_length n h = omega (arith, item_length (bytes "steps=") (decimal n) line_end, sayable_digits n h)

step_length : (k t x s : ℕ) → sayable_step k t x s ≡ true → length (line k t x s) ≤ longest_line
step_length k t x s h =
    let p = step→ k t x s h in
    omega (arith, line_length k t x s, front_length (kind_of k p.0), sayable_digits t p.1, sayable_digits x p.2, sayable_digits s p.3)

-- a longer one is not in form
pub too_long : (bytes : List ℕ) → longest_line < length bytes → SaysLine bytes one_line.Other
too_long bytes h =
    other_line
    (λ k t x s i. omega (arith, ap length i.whole, step_length k t x s i.fine))
    (λ i. omega (arith, ap length i.whole, header_length i.n i.fine))
