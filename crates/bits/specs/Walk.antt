-- A walk over marks, the lowest first.
use Rattle.std.specs.Prelude.{◌≡◌, true, false, ℕ, ◌<◌, Option, MatchOption}
use Rattle.words.specs.Tests.{some, lowest}
use Rattle.bits.specs.Word.{marked, less}

-- x is the lowest of those that were left, and the others are left
pub record Turn (left x others : ℕ) : Type 0 where
  pub size : x < 64
  pub mark : marked left x ≡ true
  pub first : x ≡ lowest 64 (marked left)
  pub after : others ≡ less left x

-- the lowest is given, or nothing where no mark is left
abbrev pub GivesLowest : ℕ → Option ℕ → ℕ → Type 0
GivesLowest left given others = MatchOption given (some 64 (marked left) ≡ false) (λ x. Turn left x others)
