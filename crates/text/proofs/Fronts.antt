-- What stands at the front of a text: a word, and a number up to the byte behind it.
use mathlib.Core.Path.{◌≡◌, refl, sym, ap, ◌∙◌}
use mathlib.Core.Bool.{Bool, true, false}
use mathlib.Core.List.{List, [], ◌∷◌, ◌++◌, append_assoc}
use Prim.Native.Nat.{ℕ, ◌+◌, ◌-◌, ◌*◌, ◌≤◌, ◌<◌}
use native.Mathlib.Omega.{arith}
use native.Mathlib.Numerals.{add-one}
use lib.ListN.{length, get_or, take, drop, drop_of_length-le}
use lib.Seq.{drop-cons}
use Rattle.std.specs.Cmp.Lexicographic.{pointwise}
use Rattle.std.proofs.Math.Dec.{eqb}
use Rattle.std.proofs.lemmas.Bool.Decides.{Decides-eqb}
use Rattle.std.proofs.lemmas.Slice.Eq.{starts_is}
use Rattle.words.proofs.Truth.{same_test, not_both, and→, →and, →is, is→, upto→, →upto}
use Rattle.text.specs.Decimal.{digit, decimal}
use Rattle.text.specs.Line.{sayable, largest}
use Rattle.text.specs.Inner.Finds.{starts, is_digit}
use Rattle.text.proofs.Spelling.{is_digit→, decimal_digit, decimal_more, decimal_leads, Beyond, the_same, longer, decimal_beyond}

pub sayable→ : (n : ℕ) → sayable n ≡ true → n ≤ largest
unfolding sayable
sayable→ n h = upto→ h

pub →sayable : (n : ℕ) → n ≤ largest → sayable n ≡ true
unfolding sayable
→sayable n h = →upto h

-- the text from i on, as its byte there and the text behind it
pub one_byte : (text : List ℕ) (i : ℕ) → i < length text → drop i text ≡ get_or text i 0 ∷ drop (i + 1) text
one_byte text i h = rw (drop-cons text i 0, add-one i)

-- A WORD
pub →starts : (word rest : List ℕ) → starts word (word ++ rest) ≡ true
unfolding starts
→starts [] rest = refl
→starts (a ∷ word) rest = →and (→is refl) (→starts word rest)

pub starts→ : (word bytes : List ℕ) → starts word bytes ≡ true → bytes ≡ word ++ drop (length word) bytes
unfolding starts
starts→ [] bytes h = refl
starts→ (a ∷ word) [] h = let z : ◌≡◌ {A = ℕ} 0 1 = cc in absurd (omega arith)
starts→ (a ∷ word) (b ∷ bytes) h =
    let e : a ≡ b = is→ (and→ h).0 in
    let t : bytes ≡ word ++ drop (length word) bytes = starts→ word bytes (and→ h).1 in
    cc

-- the library's test is that the bytes begin with this word
pub stands_there : (word bytes : List ℕ) (t : Bool) → t ≡ pointwise eqb word (take (length word) bytes) → t ≡ starts word bytes
stands_there word bytes t e =
    let p = starts_is Decides-eqb bytes word t e in
    same_test (λ h. rw (p.0 h) (→starts word _)) (λ h. p.1 _ (starts→ word bytes h))

-- A NUMBER
-- no number that a text can say stands at the front, with `behind` after it
abbrev pub NoNumber : ℕ → List ℕ → Type 0
NoNumber behind bytes = (n : ℕ) (rest : List ℕ) → sayable n ≡ true → bytes ≡ (decimal n ++ behind ∷ []) ++ rest → ⊥

pub no_digit : (behind : ℕ) (bytes : List ℕ) → ((b : ℕ) (y : List ℕ) → bytes ≡ b ∷ y → is_digit b ≡ true → ⊥) → NoNumber behind bytes
no_digit behind bytes f n rest s h =
    let l = decimal_leads n in
    f l.b ((l.rest ++ behind ∷ []) ++ rest) (h ∙ ap (λ (u : List ℕ). (u ++ behind ∷ []) ++ rest) l.is) l.a_digit

pub nothing_there : (behind : ℕ) (text : List ℕ) (at : ℕ) → length text ≤ at → NoNumber behind (drop at text)
nothing_there behind text at h = no_digit behind (drop at text) go
  where
    go : (b : ℕ) (y : List ℕ) → drop at text ≡ b ∷ y → is_digit b ≡ true → ⊥
    go b y e d =
        let f : [] ≡ b ∷ y = sym (drop_of_length-le text h) ∙ e in
        let z : ◌≡◌ {A = ℕ} 0 1 = cc in
        omega arith

pub no_first_digit : (behind : ℕ) (text : List ℕ) (at : ℕ) → at < length text → is_digit (get_or text at 0) ≡ false → NoNumber behind (drop at text)
no_first_digit behind text at h f = no_digit behind (drop at text) go
  where
    go : (b : ℕ) (y : List ℕ) → drop at text ≡ b ∷ y → is_digit b ≡ true → ⊥
    go b y e d =
        let g : get_or text at 0 ∷ drop (at + 1) text ≡ b ∷ y = sym (one_byte text at h) ∙ e in
        let i : get_or text at 0 ≡ b = cc in
        not_both d (rw i at f)

-- a number that has been read up to i, and the byte there
pub read_to : (text bytes : List ℕ) (v i : ℕ) → i < length text → bytes ≡ decimal v ++ drop i text → bytes ≡ decimal v ++ get_or text i 0 ∷ drop (i + 1) text
read_to text bytes v i h e = e ∙ ap (λ (u : List ℕ). decimal v ++ u) (one_byte text i h)

pub read_all : (text bytes : List ℕ) (v i : ℕ) → length text ≤ i → bytes ≡ decimal v ++ drop i text → bytes ≡ decimal v ++ []
read_all text bytes v i h e = e ∙ ap (λ (u : List ℕ). decimal v ++ u) (drop_of_length-le text h)

-- that byte is one digit more, or the end
module _ {bytes : List ℕ} (v b : ℕ) (y : List ℕ) (e : bytes ≡ decimal v ++ b ∷ y) where
  pub goes_on : 0 < v → is_digit b ≡ true → bytes ≡ decimal (10 * v + (b - 48)) ++ y
  unfolding digit
  goes_on p g =
      let r = is_digit→ b g in
      let d : digit (b - 48) ≡ b = omega arith in
      e ∙ sym (rw (decimal_more v (b - 48) p (omega arith), append_assoc, d) refl)

  pub ends_at : (behind : ℕ) → b ≡ behind → bytes ≡ (decimal v ++ behind ∷ []) ++ y
  ends_at behind f = e ∙ rw (append_assoc, f) refl

module _ (behind : ℕ) (apart : is_digit behind ≡ false) (bytes : List ℕ) (v : ℕ) where
  -- a number that has been read so far, and what follows it: nothing, or a byte that cannot go on
  stuck : (y : List ℕ) → bytes ≡ decimal v ++ y → ((n : ℕ) (r : List ℕ) → n ≤ largest → Beyond v n behind y r → ⊥) → NoNumber behind bytes
  stuck y e f n rest s h =
      f n rest (sayable→ n s)
      (decimal_beyond v n behind y rest apart (sym e ∙ h ∙ append_assoc (decimal n) (behind ∷ []) rest))

  pub ends_early : bytes ≡ decimal v ++ [] → NoNumber behind bytes
  ends_early e = stuck [] e go
    where
      go : (n : ℕ) (r : List ℕ) → n ≤ largest → Beyond v n behind [] r → ⊥
      go n r s (the_same i j) = let z : ◌≡◌ {A = ℕ} 0 1 = cc in omega arith
      go n r s (longer b y i j k l) = let z : ◌≡◌ {A = ℕ} 0 1 = cc in omega arith

  module _ (b : ℕ) (y : List ℕ) (e : bytes ≡ decimal v ++ b ∷ y) where
    pub other_byte : (b ≡ behind → ⊥) → is_digit b ≡ false → NoNumber behind bytes
    other_byte f g = stuck (b ∷ y) e go
      where
        go : (n : ℕ) (r : List ℕ) → n ≤ largest → Beyond v n behind (b ∷ y) r → ⊥
        go n r s (the_same i j) = f (cc)
        go n r s (longer d y' i j k l) = let z : b ≡ d = cc in not_both j (rw z at g)

    pub leading_zero : v ≡ 0 → is_digit b ≡ true → NoNumber behind bytes
    leading_zero f g = stuck (b ∷ y) e go
      where
        go : (n : ℕ) (r : List ℕ) → n ≤ largest → Beyond v n behind (b ∷ y) r → ⊥
        go n r s (the_same i j) = let z : b ≡ behind = cc in not_both (rw z at g) apart
        go n r s (longer d y' i j k l) = omega arith

    pub too_large : is_digit b ≡ true → largest < 10 * v + (b - 48) → NoNumber behind bytes
    too_large g f = stuck (b ∷ y) e go
      where
        go : (n : ℕ) (r : List ℕ) → n ≤ largest → Beyond v n behind (b ∷ y) r → ⊥
        go n r s (the_same i j) = let z : b ≡ behind = cc in not_both (rw z at g) apart
        go n r s (longer d y' i j k l) = let z : b ≡ d = cc in omega arith

-- the first digit
pub first_digit : (text : List ℕ) (at : ℕ) → at < length text → is_digit (get_or text at 0) ≡ true
    → drop at text ≡ decimal (get_or text at 0 - 48) ++ drop (at + 1) text
unfolding digit
first_digit text at h g =
    let b = get_or text at 0 in
    let r = is_digit→ b g in
    let d : digit (b - 48) ≡ b = omega arith in
    one_byte text at h ∙ sym (rw (decimal_digit (b - 48) (omega arith), d) refl)
