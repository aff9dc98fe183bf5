-- How many digits a number has, and how long a key with its value is.
use mathlib.Core.Path.{◌≡◌, ap, ◌∙◌}
use mathlib.Core.Bool.{true, false}
use mathlib.Core.List.{List, [], ◌∷◌, ◌++◌}
use mathlib.Core.Logic.{◌⊎◌, inl, inr}
use Prim.Native.Nat.{ℕ, suc, ◌+◌, ◌*◌, ◌/◌, ◌≤◌, ◌<◌}
use native.Mathlib.Omega.{arith}
use lib.ListN.{length, length-append}
use Rattle.words.specs.Tests.{◌below◌}
use Rattle.words.proofs.Truth.{decide, below→, not_below→}
use Rattle.text.specs.Decimal.{decimal}
use Rattle.text.specs.Line.{item}
use Rattle.text.proofs.Puts.{one_length, last_length}

pub one_digit : (n : ℕ) → n < 10 → length (decimal n) ≤ 1
one_digit n h = omega (arith, one_length n h)

more_digits : (b k : ℕ) → 1 ≤ k → ((m : ℕ) → m < b → length (decimal m) ≤ k) → (n : ℕ) → n < 10 * b → length (decimal n) ≤ suc k
more_digits b k p f n h = go (decide (n below 10))
  where
    go : ((n below 10) ≡ true) ⊎ ((n below 10) ≡ false) → length (decimal n) ≤ suc k
    go (inl c) = omega (arith, one_digit n (below→ c))
    go (inr c) = omega (arith, last_length n (not_below→ c), f (n / 10) (omega arith))

pub two_digits : (n : ℕ) → n < 100 → length (decimal n) ≤ 2
two_digits = more_digits 10 1 (omega arith) one_digit

pub three_digits : (n : ℕ) → n < 1000 → length (decimal n) ≤ 3
three_digits = more_digits 100 2 (omega arith) two_digits

pub four_digits : (n : ℕ) → n < 10000 → length (decimal n) ≤ 4
four_digits = more_digits 1000 3 (omega arith) three_digits

pub five_digits : (n : ℕ) → n < 100000 → length (decimal n) ≤ 5
five_digits = more_digits 10000 4 (omega arith) four_digits

pub item_length : (key v : List ℕ) (behind : ℕ) → length (item key v behind) ≡ length key + length v + 1
unfolding item
item_length key v behind = length-append (key ++ v) (behind ∷ []) ∙ ap (λ (m : ℕ). m + 1) (length-append key v)
