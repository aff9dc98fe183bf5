-- A key and its value at a place of a text.
use Rattle.std.specs.Prelude.{Option, None, Some}
use mathlib.Core.Path.{◌≡◌, sym, ap, ◌∙◌}
use mathlib.Core.Bool.{Bool, true, false}
use mathlib.Core.List.{List, [], ◌∷◌, ◌++◌, append_assoc}
use Prim.Native.Nat.{ℕ, ◌+◌, ◌-◌, ◌≤◌}
use native.Mathlib.Omega.{arith}
use lib.ListN.{length, drop, length-append, length-drop}
use lib.Seq.{drop-drop}
use Rattle.words.proofs.Truth.{not_both}
use Rattle.text.specs.Line.{item}
use Rattle.text.specs.Inner.Finds.{starts, Finds}
use Rattle.text.proofs.Fronts.{starts→, →starts}

-- the key comes first, then the value with the byte behind it
pub item_front : (key value : List ℕ) (behind : ℕ) (rest : List ℕ) → item key value behind ++ rest ≡ key ++ (value ++ behind ∷ [] ++ rest)
unfolding item
item_front key value behind rest = simp append_assoc

-- one word at the front of a text leaves one rest
pub same_front : (word x y : List ℕ) → word ++ x ≡ word ++ y → x ≡ y
same_front [] x y e = e
same_front (a ∷ word) x y e = same_front word x y (cc)

module _ (text : List ℕ) (at : ℕ) (key : List ℕ) where
  -- the text behind a word that stands there
  pub stands_there : starts key (drop at text) ≡ true → drop at text ≡ key ++ drop (at + length key) text
  stands_there h = starts→ key (drop at text) h ∙ ap (λ (u : List ℕ). key ++ u) (drop-drop (length key) at text)

  pub stands_fits : at ≤ length text → starts key (drop at text) ≡ true → at + length key ≤ length text
  stands_fits k h =
      let n = at + length key in
      let e : length text - at ≡ length key + (length text - n) =
      sym (length-drop at text) ∙ ap length (stands_there h) ∙ length-append key (drop n text) ∙ ap (λ (m : ℕ). length key + m) (length-drop n text)
      in
      omega arith

  pub no_key : (value : ℕ → List ℕ) (behind : ℕ) → starts key (drop at text) ≡ false
      → (n : ℕ) (rest : List ℕ) → drop at text ≡ item key (value n) behind ++ rest → ⊥
  no_key value behind h n rest e =
      not_both (→starts key (value n ++ behind ∷ [] ++ rest)) (rw (e ∙ item_front key (value n) behind rest) at h)

  pub behind_key : (value : ℕ → List ℕ) (behind : ℕ) (passes : ℕ → Bool) → starts key (drop at text) ≡ true
      → (r : Option (ℕ × ℕ)) → Finds (λ (n : ℕ). value n ++ behind ∷ []) passes text (at + length key) r
      → Finds (λ (n : ℕ). item key (value n) behind) passes text at r
  behind_key value behind passes h (Some (n, next)) f =
      (f.0, f.1, stands_there h ∙ ap (λ (u : List ℕ). key ++ u) f.2 ∙ sym (item_front key (value n) behind (drop next text)))
  behind_key value behind passes h None f =
      λ n rest s e. f n rest s (same_front key _ _ (sym (stands_there h) ∙ e ∙ item_front key (value n) behind rest))
