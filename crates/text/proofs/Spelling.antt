-- Laws of `decimal`: how it is spelled, that it says its number, and where it ends in a text.
use mathlib.Core.Path.{◌≡◌, refl, sym, ap, ◌∙◌}
use mathlib.Core.Bool.{Bool, true, false}
use mathlib.Core.List.{List, [], ◌∷◌, ◌++◌}
use mathlib.Core.Logic.{◌⊎◌, inl, inr, ⊎_elim}
use Prim.Native.Nat.{ℕ, zero, suc, ◌+◌, ◌-◌, ◌*◌, ◌/◌, ◌%◌, ◌≤◌, ◌<◌}
use native.Mathlib.Omega.{arith}
use Rattle.std.specs.Char.{is_ascii_digit}
use Rattle.std.specs.Prelude.{◌&&◌, leb}
use Rattle.words.specs.Tests.{◌below◌, ◌upto◌, ◌and◌}
use Rattle.words.specs.Lists.{all}
use Rattle.words.proofs.Truth.{decide, not_both, and→, →and, below→, →below, not_below→, upto→, →upto, provided_true, provided_false}
use Rattle.text.specs.Decimal.{digit, digits, decimal}
use Rattle.text.specs.Inner.Finds.{is_digit}

-- w spells n: one digit alone, or a spelled number above 0 and one digit more
pub data Spelled : ℕ → List ℕ → Type 0 where
  one : {n : ℕ} → n < 10 → Spelled n (digit n ∷ [])
  more : {n v d : ℕ} {w : List ℕ} → n ≡ 10 * v + d → 0 < v → d < 10 → Spelled v w → Spelled n (w ++ digit d ∷ [])

digits_spell : (k n : ℕ) → n ≤ k → Spelled n (digits (suc k) n)
unfolding digits
digits_spell zero n h = let s : n < 10 = omega arith in rw (provided_true _ _ (→below s)) (one s)
digits_spell (suc k) n h = go (decide (n below 10)) (λ m. digits_spell k (n / 10) m)
  where
    go : ((n below 10) ≡ true) ⊎ ((n below 10) ≡ false) → (n / 10 ≤ k → Spelled (n / 10) (digits (suc k) (n / 10))) → Spelled n (digits (suc (suc k)) n)
    go (inl c) rec = rw (provided_true _ _ c) (one (below→ c))
    go (inr c) rec =
        let b : 10 ≤ n = not_below→ c in
        rw (provided_false _ _ c) (more {n = n} {v = n / 10} {d = n % 10} (omega arith) (omega arith) (omega arith) (rec (omega arith)))

pub decimal_spelled : (n : ℕ) → Spelled n (decimal n)
unfolding decimal
decimal_spelled n = digits_spell n n (omega arith)

-- a number is spelled in one way
pub spelled_one : {n : ℕ} {v w : List ℕ} → Spelled n v → Spelled n w → v ≡ w
spelled_one (one a) (one b) = refl
spelled_one (one a) (more e p q s) = absurd (omega arith)
spelled_one (more e p q s) (one b) = absurd (omega arith)
spelled_one (more {v} {d} {w} e p q s) (more {v = v'} {d = d'} {w = w'} e' p' q' s') =
    let i : v ≡ v' = omega arith in
    let j : d ≡ d' = omega arith in
    let t : Spelled v w' = rw i s' in
    rw j (ap (λ (u : List ℕ). u ++ digit d' ∷ []) (spelled_one s t))

pub decimal_digit : (d : ℕ) → d < 10 → decimal d ≡ digit d ∷ []
decimal_digit d h = spelled_one (decimal_spelled d) (one h)

pub decimal_more : (v d : ℕ) → 0 < v → d < 10 → decimal (10 * v + d) ≡ decimal v ++ digit d ∷ []
decimal_more v d p q = spelled_one (decimal_spelled (10 * v + d)) (more refl p q (decimal_spelled v))

-- what bytes say as a number, after the number a
value : ℕ → List ℕ → ℕ
value a [] = a
value a (b ∷ w) = value (10 * a + (b - 48)) w

value_append : (a : ℕ) (v w : List ℕ) → value a (v ++ w) ≡ value (value a v) w
unfolding value
value_append a [] w = refl
value_append a (b ∷ v) w = value_append (10 * a + (b - 48)) v w

value_grows : (a : ℕ) (w : List ℕ) → a ≤ value a w
unfolding value
value_grows a [] = omega arith
value_grows a (b ∷ w) = omega (arith, value_grows (10 * a + (b - 48)) w)

value_spelled : {n : ℕ} {w : List ℕ} → Spelled n w → value 0 w ≡ n
unfolding value digit
value_spelled (one a) = omega arith
value_spelled (more {n} {v} {d} {w} e p q s) = value_append 0 w (digit d ∷ []) ∙ rw (value_spelled s) (omega arith)

pub →is_digit : (d : ℕ) → d < 10 → is_digit (digit d) ≡ true
unfolding is_digit digit
→is_digit d h = →and (→upto (omega arith)) (→upto (omega arith))

-- the library's test is the same
pub ascii_digit : (b : ℕ) → is_ascii_digit b ≡ is_digit b
unfolding is_digit ◌upto◌ ◌and◌
ascii_digit b = both (leb 48 b) (leb b 57)
  where
    both : (x y : Bool) → (x && y) ≡ (x and y)
    both true y = refl
    both false y = refl

pub is_digit→ : (b : ℕ) → is_digit b ≡ true → (48 ≤ b) × (b ≤ 57)
unfolding is_digit
is_digit→ b h = let r = and→ h in (upto→ r.0, upto→ r.1)

all_append : (p : ℕ → Bool) (v w : List ℕ) → all p v ≡ true → all p w ≡ true → all p (v ++ w) ≡ true
unfolding all
all_append p [] w h k = k
all_append p (a ∷ v) w h k = →and (and→ h).0 (all_append p v w (and→ h).1 k)

all_right : (p : ℕ → Bool) (v w : List ℕ) → all p (v ++ w) ≡ true → all p w ≡ true
unfolding all
all_right p [] w h = h
all_right p (a ∷ v) w h = all_right p v w (and→ h).1

all_digits : {n : ℕ} {w : List ℕ} → Spelled n w → all is_digit w ≡ true
unfolding all
all_digits (one {n} a) = →and (→is_digit n a) refl
all_digits (more {d} {w} e p q s) = all_append is_digit w (digit d ∷ []) (all_digits s) (→and (→is_digit d q) refl)

-- the first digit, which is 0 for no number but 0
pub record Leads (n : ℕ) (w : List ℕ) : Type 0 where
  pub b : ℕ
  pub rest : List ℕ
  pub is : w ≡ b ∷ rest
  pub a_digit : is_digit b ≡ true
  pub above : 0 < n → 48 < b

spelled_leads : {n : ℕ} {w : List ℕ} → Spelled n w → Leads n w
unfolding digit
spelled_leads (one {n} a) = record { b = 48 + n; rest = []; is = refl; a_digit = →is_digit n a; above = λ (h : 0 < n). omega arith }
spelled_leads (more {d} {w} e p q s) =
    let l = spelled_leads s in
    record { b = l.b; rest = l.rest ++ digit d ∷ []; is = ap (λ (u : List ℕ). u ++ digit d ∷ []) l.is; a_digit = l.a_digit; above = λ h. l.above p }

pub decimal_leads : (n : ℕ) → Leads n (decimal n)
decimal_leads n = spelled_leads (decimal_spelled n)

-- of two runs of digits at the front of one text, the second with another byte behind it, the first is part of the second
front_digits : (v w y r : List ℕ) (e : ℕ) → all is_digit v ≡ true → all is_digit w ≡ true → is_digit e ≡ false → v ++ y ≡ w ++ e ∷ r
    → (z : List ℕ) × (w ≡ v ++ z) × (y ≡ z ++ e ∷ r)
unfolding all
front_digits [] w y r e p q f h = (w, refl, h)
front_digits (a ∷ v) [] y r e p q f h = let i : a ≡ e = cc in absurd (not_both (and→ p).0 (rw i f))
front_digits (a ∷ v) (b ∷ w) y r e p q f h =
    let i : a ≡ b = cc in
    let j : v ++ y ≡ w ++ e ∷ r = cc in
    let z = front_digits v w y r e (and→ p).1 (and→ q).1 f j in
    let k : w ≡ v ++ z.0 = z.1 in
    (z.0, (cc), z.2)

-- where a number stands at the front of a text, and so does another with no digit behind it, they are one;
-- or a digit follows the first, which is not 0, and the other is at least what the two say together
pub data Beyond (v n e : ℕ) (y r : List ℕ) : Type 0 where
  the_same : n ≡ v → y ≡ e ∷ r → Beyond v n e y r
  longer : (b : ℕ) (y' : List ℕ) → y ≡ b ∷ y' → is_digit b ≡ true → 0 < v → 10 * v + (b - 48) ≤ n → Beyond v n e y r

decimal_zero : decimal 0 ≡ 48 ∷ []
unfolding digit
decimal_zero = decimal_digit 0 (omega arith)

-- 0 is spelled by one digit alone
no_leading_zero : (n b : ℕ) (z : List ℕ) → decimal n ≡ decimal 0 ++ b ∷ z → ⊥
no_leading_zero n b z h = go (decide (0 below n))
  where
    spelled : decimal n ≡ 48 ∷ b ∷ z
    spelled = h ∙ rw decimal_zero refl

    go : ((0 below n) ≡ true) ⊎ ((0 below n) ≡ false) → ⊥
    go (inl c) =
        let l = decimal_leads n in
        let f : l.b ∷ l.rest ≡ 48 ∷ b ∷ z = sym l.is ∙ spelled in
        let i : l.b ≡ 48 = cc in
        omega (arith, l.above (below→ c))
    go (inr c) =
        let i : n ≡ 0 = omega (arith, not_below→ c) in
        let j : 48 ∷ [] ≡ 48 ∷ b ∷ z = sym decimal_zero ∙ ap decimal (sym i) ∙ spelled in
        let k : ◌≡◌ {A = ℕ} 0 1 = cc in
        omega arith

pub decimal_beyond : (v n e : ℕ) (y r : List ℕ) → is_digit e ≡ false → decimal v ++ y ≡ decimal n ++ e ∷ r → Beyond v n e y r
unfolding value all
decimal_beyond v n e y r f h = go z.0 z.1 z.2
  where
    z : (z : List ℕ) × (decimal n ≡ decimal v ++ z) × (y ≡ z ++ e ∷ r)
    z = front_digits (decimal v) (decimal n) y r e (all_digits (decimal_spelled v)) (all_digits (decimal_spelled n)) f h

    said : (z : List ℕ) → decimal n ≡ decimal v ++ z → n ≡ value v z
    said z k =
        sym (value_spelled (decimal_spelled n))
        ∙ ap (value 0) k
        ∙ value_append 0 (decimal v) z
        ∙ ap (λ (a : ℕ). value a z) (value_spelled (decimal_spelled v))

    positive : (b : ℕ) (z : List ℕ) → decimal n ≡ decimal v ++ b ∷ z → 0 < v
    positive b z k =
        ⊎_elim below→
        (λ (c : (0 below v) ≡ false). let i : v ≡ 0 = omega (arith, not_below→ c) in absurd (no_leading_zero n b z (k ∙ ap (λ (u : ℕ). decimal u ++ b ∷ z) i)))
        (decide (0 below v))

    go : (z : List ℕ) → decimal n ≡ decimal v ++ z → y ≡ z ++ e ∷ r → Beyond v n e y r
    go [] k i = the_same (said [] k) i
    go (b ∷ z) k i =
        longer b (z ++ e ∷ r) i (and→ (all_right is_digit (decimal v) (b ∷ z) (rw k at (all_digits (decimal_spelled n))))).0 (positive b z k)
        (omega (arith, said (b ∷ z) k, value_grows (10 * v + (b - 48)) z))
