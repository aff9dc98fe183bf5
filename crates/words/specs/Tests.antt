-- Tests in words, and questions over the numbers below a bound. A test passes when it is `true`. Laws are in proofs/Truth.
use Rattle.std.specs.Prelude.{Bool, true, false, ℕ, zero, suc, eqb, ltb, leb}

infix 40 ◌is◌
infix 40 ◌below◌
infix 40 ◌upto◌
infixl 35 ◌and◌
infixl 30 ◌or◌
infixr 20 ◌implies◌
-- m equals n
unfoldable pub ◌is◌ : ℕ → ℕ → Bool
m is n = eqb m n

-- m is less than n
unfoldable pub ◌below◌ : ℕ → ℕ → Bool
m below n = ltb m n

-- m is at most n
unfoldable pub ◌upto◌ : ℕ → ℕ → Bool
m upto n = leb m n

unfoldable pub ◌and◌ : Bool → Bool → Bool
true and b = b
false and b = false

unfoldable pub ◌or◌ : Bool → Bool → Bool
true or b = true
false or b = b

unfoldable pub ◌implies◌ : Bool → Bool → Bool
true implies b = b
false implies b = true

unfoldable pub fails : Bool → Bool
fails true = false
fails false = true

module _ {ℓ} {A : Type ℓ} where
  infixr 10 provided◌then◌else◌
  unfoldable pub provided◌then◌else◌ : Bool → A → A → A
  provided true then a else b = a
  provided false then a else b = b

-- some number below n passes
unfoldable pub some : ℕ → (ℕ → Bool) → Bool
some zero p = false
some (suc n) p = some n p or p n

-- every number below n passes
unfoldable pub every : ℕ → (ℕ → Bool) → Bool
every zero p = true
every (suc n) p = every n p and p n

-- how many numbers below n pass
unfoldable pub count : ℕ → (ℕ → Bool) → ℕ
count zero p = zero
count (suc n) p = provided p n then suc (count n p) else count n p

-- the lowest number below n that passes; n if none does
unfoldable pub lowest : ℕ → (ℕ → Bool) → ℕ
lowest zero p = zero
lowest (suc n) p = provided some n p then lowest n p else provided p n then n else suc n

-- the highest number below n that passes; n if none does
unfoldable pub highest : ℕ → (ℕ → Bool) → ℕ
highest zero p = zero
highest (suc n) p = provided p n then n else provided some n p then highest n p else suc n
