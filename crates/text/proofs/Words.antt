-- The words of the kinds: which stands at a place, and that no two can stand at one.
use Rattle.std.specs.Prelude.{Some}
use mathlib.Core.Path.{◌≡◌, refl, sym, ap, subst, ◌∙◌}
use mathlib.Core.Bool.{Bool, true, false}
use mathlib.Core.List.{List, ◌++◌}
use mathlib.Core.Logic.{◌⊎◌, inl, inr}
use Prim.Native.Nat.{ℕ, ◌+◌, ◌≤◌}
use Prim.Native.Char.{code}
use native.Mathlib.Omega.{arith}
use lib.ListN.{length, get_or, drop}
use Rattle.words.specs.Tests.{◌is◌, ◌upto◌, ◌and◌, provided◌then◌else◌}
use Rattle.words.proofs.Truth.{decide, not_both, and→, upto→, is→, isnt→, →isnt}
use Rattle.text.specs.Bytes.{bytes}
use Rattle.text.specs.Line.{word, item, op, has_word}
use Rattle.text.specs.Inner.Finds.{starts, Finds}
use Rattle.text.proofs.Fronts.{→starts}
use Rattle.text.proofs.Items.{stands_there, stands_fits}

pub data Kind : ℕ → Type 0 where
  begin : Kind 1
  read : Kind 2
  write : Kind 3
  commit : Kind 4
  abort : Kind 5

five : (k : ℕ) → 1 ≤ k → k ≤ 5 → (k ≡ 1 → ⊥) → (k ≡ 2 → ⊥) → (k ≡ 3 → ⊥) → (k ≡ 4 → ⊥) → k ≡ 5
five k p q a b c d = omega arith

pub kind_of : (k : ℕ) → has_word k ≡ true → Kind k
unfolding has_word
kind_of k h = go (decide (k is 1)) (decide (k is 2)) (decide (k is 3)) (decide (k is 4))
  where
    go : ((k is 1) ≡ true) ⊎ ((k is 1) ≡ false) → ((k is 2) ≡ true) ⊎ ((k is 2) ≡ false) → ((k is 3) ≡ true) ⊎ ((k is 3) ≡ false)
        → ((k is 4) ≡ true) ⊎ ((k is 4) ≡ false) → Kind k
    go (inl a) b c d = subst Kind (sym (is→ a)) begin
    go (inr a) (inl b) c d = subst Kind (sym (is→ b)) read
    go (inr a) (inr b) (inl c) d = subst Kind (sym (is→ c)) write
    go (inr a) (inr b) (inr c) (inl d) = subst Kind (sym (is→ d)) commit
    go (inr a) (inr b) (inr c) (inr d) =
        let p = and→ h in
        let e : k ≡ 5 = five k (upto→ p.0) (upto→ p.1) (isnt→ a) (isnt→ b) (isnt→ c) (isnt→ d) in
        subst Kind (sym e) abort

-- each kind is told by the first letter of its word, which is the fourth byte
letter : ℕ → ℕ
letter b = provided b is code "b" then 1 else provided b is code "r" then 2 else provided b is code "w" then 3 else provided b is code "c" then 4 else 5

letter_of : {k : ℕ} → Kind k → (rest : List ℕ) → letter (get_or (op k ++ rest) 3 0) ≡ k
unfolding letter op item word bytes ◌is◌ provided◌then◌else◌
letter_of begin rest = refl
letter_of read rest = refl
letter_of write rest = refl
letter_of commit rest = refl
letter_of abort rest = refl

pub op_one : (k j : ℕ) (x y : List ℕ) → has_word k ≡ true → has_word j ≡ true → op k ++ x ≡ op j ++ y → k ≡ j
op_one k j x y p q e =
    sym (letter_of (kind_of k p) x) ∙ ap (λ (u : List ℕ). letter (get_or u 3 0)) e ∙ letter_of (kind_of j q) y

kind_word : {k : ℕ} → Kind k → has_word k ≡ true
unfolding has_word ◌and◌ ◌upto◌
kind_word begin = refl
kind_word read = refl
kind_word write = refl
kind_word commit = refl
kind_word abort = refl

-- what is none of the first four has the word of the fifth
pub other_word : (k : ℕ) → (k ≡ 1 → ⊥) → (k ≡ 2 → ⊥) → (k ≡ 3 → ⊥) → (k ≡ 4 → ⊥) → word k ≡ word 5
unfolding word ◌is◌ provided◌then◌else◌
other_word k a b c d = rw (→isnt a, →isnt b, →isnt c, →isnt d) refl

-- no word is longer
pub word_length : (k : ℕ) → length (word k) ≤ 6
unfolding word bytes provided◌then◌else◌
word_length k = go (k is 1) (k is 2) (k is 3) (k is 4)
  where
    go : (a b c d : Bool) → length (provided a then bytes "begin" else provided b then bytes "read" else provided c then bytes "write" else provided d then bytes "commit" else bytes "abort") ≤ 6
    go true b c d = omega arith
    go false true c d = omega arith
    go false false true d = omega arith
    go false false false true = omega arith
    go false false false false = omega arith

-- a kind that stands there
pub op_stands : (text : List ℕ) (at : ℕ) {k : ℕ} → Kind k → at ≤ length text → starts (op k) (drop at text) ≡ true → Finds op has_word text at (Some (k, at + length (op k)))
op_stands text at {k} i h s = (kind_word i, stands_fits text at (op k) h s, stands_there text at (op k) s)

-- none of the five stands there
pub no_kind : (text : List ℕ) → starts (op 1) text ≡ false → starts (op 2) text ≡ false → starts (op 3) text ≡ false
    → starts (op 4) text ≡ false → starts (op 5) text ≡ false → (k : ℕ) (rest : List ℕ) → has_word k ≡ true → text ≡ op k ++ rest → ⊥
no_kind text a b c d e k rest h f = go (kind_of k h) (rw f (→starts (op k) rest))
  where
    go : {j : ℕ} → Kind j → starts (op j) text ≡ true → ⊥
    go begin s = not_both s a
    go read s = not_both s b
    go write s = not_both s c
    go commit s = not_both s d
    go abort s = not_both s e
