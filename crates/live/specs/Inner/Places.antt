-- What the private functions that find and give places promise.
use Rattle.std.specs.Prelude.{◌≡◌, List, ℕ, suc, ◌+◌, ◌-◌, ◌*◌, ◌%◌, ◌≤◌, ◌<◌, length, set, Option, MatchOption}
use Rattle.verdict.specs.Limits.{objects}
use Rattle.live.specs.Inner.Table.{cell, name_at, sees_at, open_at}
use Rattle.live.specs.Inner.Held.{Place}

-- a place of the first n at which t is open, or there is none
abbrev pub FoundAt : (opened : List ℕ) (n t : ℕ) → Option ℕ → Type 0
FoundAt opened n t found = MatchOption found ((p : ℕ) → Place n p → open_at opened p ≡ t → ⊥) (λ p. Place n p × (open_at opened p ≡ t))

-- r is the lowest of the first n places that is free; the one behind them where none is
pub record FreePlace (rows : List ℕ) (n r : ℕ) : Type 0 where
  pub from_one : 1 ≤ r
  pub bound : r ≤ suc n
  pub free : r ≤ n → name_at rows r ≡ 0
  pub used : (q : ℕ) → 1 ≤ q → q < r → 1 ≤ name_at rows q

-- row p sees what row 0 sees, and nothing else is another
pub record CopiesRow (rows : List ℕ) (p : ℕ) (rows' : List ℕ) : Type 0 where
  pub size : length rows' ≡ length rows
  pub copied : (x : ℕ) → x < objects → sees_at rows' p x ≡ sees_at rows 0 x
  pub others : (q c : ℕ) → q ≤ 128 → c < 67 → (q ≡ p → ⊥) → cell rows' q c ≡ cell rows q c

-- place p is given to t
pub record Given (opened rows marks : List ℕ) (p t : ℕ) (opened' rows' marks' : List ℕ) : Type 0 where
  pub opens : opened' ≡ set (set opened (p - 1) t) (128 + t % 128) p
  pub clears : marks' ≡ set (set marks ((p - 1) * 2) 0) ((p - 1) * 2 + 1) 0
  pub size : length rows' ≡ length rows
  pub name : cell rows' p 0 ≡ t
  pub status : cell rows' p 1 ≡ 0
  pub sees : (x : ℕ) → x < objects → sees_at rows' p x ≡ sees_at rows 0 x
  pub others : (q c : ℕ) → q ≤ 128 → c < 67 → (q ≡ p → ⊥) → cell rows' q c ≡ cell rows q c
