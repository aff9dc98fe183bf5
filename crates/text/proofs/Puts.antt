-- Bytes put into a run of bytes: one byte, one byte more, one word after another, and the last digit of a number.
use mathlib.Core.Path.{◌≡◌, refl, sym, ap, subst, ◌∙◌}
use mathlib.Core.List.{List, [], ◌∷◌, ◌++◌, append-nil, append_assoc}
use Prim.Native.Nat.{ℕ, suc, ◌+◌, ◌*◌, ◌/◌, ◌%◌, ◌≤◌, ◌<◌}
use native.Mathlib.Omega.{arith}
use native.Mathlib.Numerals.{add-one}
use lib.ListN.{length, get_or, take, drop, set, length-append, length-drop, take-append-drop}
use lib.Seq.{length-take-le, take-suc, take_at, drop_at, drop-drop, drop-cons, set_split, set_at}
use borrow.Rule.Slice.PartMut.{put_mid}
use Rattle.text.specs.Decimal.{digit, decimal}
use Rattle.text.specs.Line.{item}
use Rattle.text.specs.Inner.Put.{put_at, Fits, Puts}
use Rattle.verdict.specs.Reason.{Entry}
use Rattle.text.specs.ReportLine.{spelled, spelled_all}
use Rattle.text.proofs.Spelling.{decimal_digit, decimal_more}

pub put_one : (l : List ℕ) (at b : ℕ) → at < length l → set l at b ≡ put_at at (b ∷ []) l
unfolding put_at
put_one l at b h = set_split l at b h ∙ rw (append_assoc, add-one at) refl

pub put_more : (l w : List ℕ) (at b : ℕ) → at + length w < length l → set (put_at at w l) (at + length w) b ≡ put_at at (w ++ b ∷ []) l
unfolding put_at
put_more l w at b h =
    let n : length (take at l ++ w) ≡ at + length w = length-append (take at l) w ∙ ap (λ (m : ℕ). m + length w) (length-take-le at l (omega arith)) in
    let m : at + length (w ++ b ∷ []) ≡ suc (at + length w) = omega (arith, length-append w (b ∷ [])) in
    rw (drop-cons l (at + length w) 0 h, set_at (take at l ++ w) _ _ b (at + length w) n, m) (simp append_assoc)

-- nothing put in
pub puts_nothing : (l : List ℕ) (at : ℕ) → Puts [] at l at l
unfolding put_at
puts_nothing l at = let e : at + 0 ≡ at = omega arith in (sym e, rw (e, append-nil) (sym (take-append-drop at l)))

pub puts_byte : (l : List ℕ) (at b : ℕ) → at < length l → Puts (b ∷ []) at l (at + 1) (set l at b)
puts_byte l at b h = (refl, put_one l at b h)

-- what is put in leaves the length
pub put_length : (v l : List ℕ) (at : ℕ) → Fits v at l → length (put_at at v l) ≡ length l
unfolding put_at
put_length v l at h =
    length-append (take at l ++ v) (drop (at + length v) l)
    ∙ ap (λ (m : ℕ). m + length (drop (at + length v) l)) (length-append (take at l) v ∙ ap (λ (m : ℕ). m + length v) (length-take-le at l (omega arith)))
    ∙ ap (λ (m : ℕ). at + length v + m) (length-drop (at + length v) l)
    ∙ omega arith

-- two words, one after another
module _ (v w l : List ℕ) (at : ℕ) (fits : Fits (v ++ w) at l) where
  pub first_fits : Fits v at l
  first_fits = omega (arith, length-append v w)

  module _ {next : ℕ} {l' : List ℕ} (put : Puts v at l next l') where
    pub then_fits : Fits w next l'
    then_fits =
        let e : length l' ≡ length l = ap length put.1 ∙ put_length v l at first_fits in
        let f : next ≡ at + length v = put.0 in
        omega (arith, length-append v w)

    pub both_put : {end : ℕ} {l'' : List ℕ} → Puts w next l' end l'' → Puts (v ++ w) at l end l''
    unfolding put_at
    both_put second =
        let front = take at l ++ v in
        let m = at + length v in
        let n : length front ≡ m = length-append (take at l) v ∙ ap (λ (k : ℕ). k + length v) (length-take-le at l (omega (arith, first_fits))) in
        let p : at + length (v ++ w) ≡ m + length w = omega (arith, length-append v w) in
        let q : take m (front ++ drop m l) ≡ front = take_at front (drop m l) m n in
        let r : drop (m + length w) (front ++ drop m l) ≡ drop (m + length w) l =
        sym (drop-drop (length w) m (front ++ drop m l)) ∙ ap (drop (length w)) (drop_at front (drop m l) m n) ∙ drop-drop (length w) m l
        in
        (second.0 ∙ ap (λ (k : ℕ). k + length w) put.0 ∙ sym p, second.1 ∙ rw (put.0, put.1, q, r, p) (simp append_assoc))

-- a key, its value, and the byte behind them
module _ (key v : List ℕ) (behind : ℕ) (l : List ℕ) (at : ℕ) (fits : Fits (item key v behind) at l) where
  front_fits : Fits (key ++ v) at l
  unfolding item
  front_fits = first_fits (key ++ v) (behind ∷ []) l at fits

  pub key_fits : Fits key at l
  key_fits = first_fits key v l at front_fits

  module _ {next : ℕ} {l' : List ℕ} (put : Puts key at l next l') where
    pub value_fits : Fits v next l'
    value_fits = then_fits key v l at front_fits put

    module _ {next₂ : ℕ} {l₂ : List ℕ} (put₂ : Puts v next l' next₂ l₂) where
      front_put : Puts (key ++ v) at l next₂ l₂
      front_put = both_put key v l at front_fits put put₂

      pub behind_fits : Fits (behind ∷ []) next₂ l₂
      unfolding item
      behind_fits = then_fits (key ++ v) (behind ∷ []) l at fits front_put

      pub item_put : {end : ℕ} {l₃ : List ℕ} → Puts (behind ∷ []) next₂ l₂ end l₃ → Puts (item key v behind) at l end l₃
      unfolding item
      item_put = both_put (key ++ v) (behind ∷ []) l at fits front_put

-- four words
module _ (a b c d l : List ℕ) (at : ℕ) (fits : Fits (a ++ b ++ c ++ d) at l) where
  three_fit : Fits (a ++ b ++ c) at l
  three_fit = first_fits (a ++ b ++ c) d l at fits

  two_fit : Fits (a ++ b) at l
  two_fit = first_fits (a ++ b) c l at three_fit

  pub fits_first : Fits a at l
  fits_first = first_fits a b l at two_fit

  module _ {next : ℕ} {l' : List ℕ} (put : Puts a at l next l') where
    pub fits_second : Fits b next l'
    fits_second = then_fits a b l at two_fit put

    module _ {next₂ : ℕ} {l₂ : List ℕ} (put₂ : Puts b next l' next₂ l₂) where
      two_put : Puts (a ++ b) at l next₂ l₂
      two_put = both_put a b l at two_fit put put₂

      pub fits_third : Fits c next₂ l₂
      fits_third = then_fits (a ++ b) c l at three_fit two_put

      module _ {next₃ : ℕ} {l₃ : List ℕ} (put₃ : Puts c next₂ l₂ next₃ l₃) where
        three_put : Puts (a ++ b ++ c) at l next₃ l₃
        three_put = both_put (a ++ b) c l at three_fit two_put put₃

        pub fits_fourth : Fits d next₃ l₃
        fits_fourth = then_fits (a ++ b ++ c) d l at fits three_put

        pub four_put : {end : ℕ} {l₄ : List ℕ} → Puts d next₃ l₃ end l₄ → Puts (a ++ b ++ c ++ d) at l end l₄
        four_put = both_put (a ++ b ++ c) d l at fits three_put

-- an answer that is known by its case
module _ {A : Type 0} (line : A → List ℕ) {a b : A} (known : a ≡ b) (l : List ℕ) (at : ℕ) where
  pub known_fits : Fits (line a) at l → Fits (line b) at l
  known_fits = subst (λ (z : A). Fits (line z) at l) known

  pub known_puts : {next : ℕ} {l' : List ℕ} → Puts (line b) at l next l' → Puts (line a) at l next l'
  known_puts {next} {l'} = subst (λ (z : A). Puts (line z) at l next l') (sym known)

-- a word, copied into the part that it fits
pub puts_part : (l w v : List ℕ) (at k : ℕ) → k ≡ length w → v ≡ w → put_mid at k l v ≡ put_at at w l
unfolding put_at
puts_part l w v at k h e = rw (e, h) (ap (λ (u : List ℕ). take at l ++ (w ++ u)) (drop-drop (length w) at l) ∙ sym (append_assoc (take at l) w (drop (at + length w) l)))

-- MEMBERS, ONE AFTER ANOTHER
spelled_append : (v w : List Entry) → spelled_all (v ++ w) ≡ spelled_all v ++ spelled_all w
unfolding spelled_all
spelled_append [] w = refl
spelled_append (e ∷ v) w = rw (spelled_append v w) (sym (append_assoc (spelled e) (spelled_all v) (spelled_all w)))

module _ (w : List Entry) (l : List ℕ) (at : ℕ) (fits : Fits (spelled_all w) at l) (i : ℕ) (h : i < length w) (e : Entry) (is : get_or w i e ≡ e) where
  -- one member more
  one_more : spelled_all (take i w) ++ spelled e ≡ spelled_all (take (i + 1) w)
  unfolding spelled_all
  one_more =
      sym (ap (λ (m : ℕ). spelled_all (take m w)) (add-one i)
      ∙ ap spelled_all (take-suc w i e h)
      ∙ spelled_append (take i w) (get_or w i e ∷ [])
      ∙ ap (λ (u : Entry). spelled_all (take i w) ++ (spelled u ++ [])) is
      ∙ ap (λ (u : List ℕ). spelled_all (take i w) ++ u) (append-nil (spelled e)))

  -- .. has room where all have
  more_fits : Fits (spelled_all (take i w) ++ spelled e) at l
  more_fits =
      let n : length (spelled_all w) ≡ length (spelled_all (take (i + 1) w)) + length (spelled_all (drop (i + 1) w)) =
      ap (λ (u : List Entry). length (spelled_all u)) (sym (take-append-drop (i + 1) w))
      ∙ ap length (spelled_append (take (i + 1) w) (drop (i + 1) w))
      ∙ length-append (spelled_all (take (i + 1) w)) (spelled_all (drop (i + 1) w))
      in
      let f : length (spelled_all (take i w) ++ spelled e) ≡ length (spelled_all (take (i + 1) w)) = ap length one_more in
      omega arith

  module _ {next : ℕ} {l' : List ℕ} (put : Puts (spelled_all (take i w)) at l next l') where
    pub member_fits : Fits (spelled e) next l'
    member_fits = then_fits (spelled_all (take i w)) (spelled e) l at more_fits put

    pub member_put : {end : ℕ} {l'' : List ℕ} → Puts (spelled e) next l' end l'' → Puts (spelled_all (take (i + 1) w)) at l end l''
    member_put {end} {l''} p = subst (λ (u : List ℕ). Puts u at l end l'') one_more (both_put (spelled_all (take i w)) (spelled e) l at more_fits put p)

-- a number of one digit
module _ (n : ℕ) (h : n < 10) where
  pub one_length : length (decimal n) ≡ 1
  one_length = ap length (decimal_digit n h)

  pub digit_fits : (l : List ℕ) (at : ℕ) → Fits (decimal n) at l → Fits (digit n ∷ []) at l
  digit_fits l at = known_fits (λ (w : List ℕ). w) (decimal_digit n h) l at

  pub digit_put : (l : List ℕ) (at : ℕ) {next : ℕ} {l' : List ℕ} → Puts (digit n ∷ []) at l next l' → Puts (decimal n) at l next l'
  digit_put l at = known_puts (λ (w : List ℕ). w) (decimal_digit n h) l at

-- a number of more digits: all but the last, and the last
module _ (n : ℕ) (h : 10 ≤ n) where
  last_digit : decimal n ≡ decimal (n / 10) ++ digit (n % 10) ∷ []
  last_digit =
      let e : 10 * (n / 10) + n % 10 ≡ n = omega arith in
      ap decimal (sym e) ∙ decimal_more (n / 10) (n % 10) (omega arith) (omega arith)

  pub last_length : length (decimal n) ≡ length (decimal (n / 10)) + 1
  last_length = ap length last_digit ∙ length-append (decimal (n / 10)) (digit (n % 10) ∷ [])

  module _ (l : List ℕ) (at : ℕ) (fits : Fits (decimal n) at l) where
    both_fit : Fits (decimal (n / 10) ++ digit (n % 10) ∷ []) at l
    both_fit = known_fits (λ (w : List ℕ). w) last_digit l at fits

    pub first_digits_fit : Fits (decimal (n / 10)) at l
    first_digits_fit = first_fits (decimal (n / 10)) (digit (n % 10) ∷ []) l at both_fit

    module _ {next : ℕ} {l' : List ℕ} (put : Puts (decimal (n / 10)) at l next l') where
      pub last_fits : Fits (digit (n % 10) ∷ []) next l'
      last_fits = then_fits (decimal (n / 10)) (digit (n % 10) ∷ []) l at both_fit put

      pub last_put : {end : ℕ} {l'' : List ℕ} → Puts (digit (n % 10) ∷ []) next l' end l'' → Puts (decimal n) at l end l''
      last_put p = known_puts (λ (w : List ℕ). w) last_digit l at (both_put (decimal (n / 10)) (digit (n % 10) ∷ []) l at both_fit put p)
