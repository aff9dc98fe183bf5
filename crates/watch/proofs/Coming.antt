-- A line whose bytes come one after another: what is kept of it, and what it says.
use mathlib.Core.Path.{◌≡◌, refl, ap, subst, ◌∙◌}
use mathlib.Core.List.{List, [], ◌∷◌, ◌++◌}
use Prim.Native.Nat.{ℕ, suc, ◌+◌, ◌≤◌, ◌<◌}
use native.Mathlib.Omega.{arith}
use native.Mathlib.Numerals.{add-one}
use lib.ListN.{length, take, set, length-append}
use lib.Seq.{take-suc-set}
use Rattle.text.specs.OneLine.{longest_line, SaysLine}
use Rattle.text.specs.declared.OneLine.{OneLine}
use Rattle.text.specs.declared.OneLine.TheVariants.{Other}
use Rattle.text.proofs.OneLines.{too_long}
use Rattle.watch.specs.Begun.{Keeps, all_kept, too_many}

-- nothing has come
pub nothing_kept : (bytes : List ℕ) → Keeps [] bytes 0
nothing_kept bytes = all_kept (omega arith) refl refl

one_longer : (came : List ℕ) (b : ℕ) → length (came ++ b ∷ []) ≡ length came + 1
one_longer came b = length-append came (b ∷ [])

module _ (came bytes : List ℕ) (count b : ℕ) where
  -- one byte more, where there is room for it
  pub one_more_kept : length bytes ≡ longest_line → count < longest_line → Keeps came bytes count → Keeps (came ++ b ∷ []) (set bytes count b) (count + 1)
  one_more_kept size h (all_kept few e f) =
      all_kept (omega arith) (one_longer came b ∙ ap (λ (n : ℕ). n + 1) e)
      (ap (λ (n : ℕ). take n (set bytes count b)) (add-one count) ∙ take-suc-set bytes count b (omega arith) ∙ ap (λ (u : List ℕ). u ++ b ∷ []) f)
  one_more_kept size h (too_many many more) = absurd (omega arith)

  -- .. and where there is none
  pub one_too_many : longest_line ≤ count → Keeps came bytes count → Keeps (came ++ b ∷ []) bytes (suc longest_line)
  one_too_many h (all_kept few e f) = too_many (omega arith) (omega (arith, one_longer came b))
  one_too_many h (too_many many more) = too_many (omega arith) (omega (arith, one_longer came b))

module _ (came bytes : List ℕ) (count : ℕ) where
  -- what the bytes that are kept say, the line says
  pub kept_says : {r : OneLine} → count ≤ longest_line → SaysLine (take count bytes) r → Keeps came bytes count → SaysLine came r
  kept_says {r} h says (all_kept few e f) = subst (λ (u : List ℕ). SaysLine u r) f says
  kept_says h says (too_many many more) = absurd (omega arith)

  -- a line of which more has come than is kept is not in form
  pub many_say : longest_line < count → Keeps came bytes count → SaysLine came Other
  many_say h (all_kept few e f) = absurd (omega arith)
  many_say h (too_many many more) = too_long came more
