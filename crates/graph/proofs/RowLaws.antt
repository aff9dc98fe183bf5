-- Rows of sets: a row that is read, one that is put among the others, and one that takes more vertices in.
use mathlib.Core.Path.{◌≡◌, refl, sym, ap, subst, ◌∙◌}
use mathlib.Core.Bool.{Bool, true, false}
use mathlib.Core.Logic.{◌⊎◌, inl, inr}
use mathlib.Core.List.{List, [], ◌∷◌}
use Prim.Native.Nat.{ℕ, ◌+◌, ◌-◌, ◌*◌, ◌/◌, ◌%◌, ◌^◌, ◌≤◌, ◌<◌}
use native.Mathlib.Omega.{arith}
use lib.ListN.{length, get_or, set, length-set, replicate}
use lib.Seq.{get_or-set_same, get_or-set_other, ext_get_or}
use Rattle.words.specs.Tests.{◌is◌, ◌upto◌, ◌and◌, ◌or◌, fails, provided◌then◌else◌}
use Rattle.words.proofs.Truth.{decide, not_both, to_false, same_test, and→, →and, and_true, and_no_left, or_no, is→, →is, isnt→, upto→, →upto, provided_true, provided_false}
use Rattle.bits.specs.Word.{marked, less}
use Rattle.bits.specs.Run.{bit, without_bit}
use Rattle.bits.proofs.Marks.{same_marks}
use Rattle.bits.proofs.Runs.{bit_at, bit_less, no_bit}
use Rattle.graph.specs.Matrix.{takes_part, in_row, Joins, Drops}
use Rattle.graph.specs.Inner.Rows.{PutRow}
use Rattle.graph.proofs.TwoWords.{by_bit, word_by_word, two_words}

-- no row, and no vertex in a row
pub no_row : (m : List ℕ) (b : ℕ) → (1 ≤ b → b ≤ 128 → ⊥) → (a : ℕ) → in_row m b a ≡ false
unfolding in_row
no_row m b n a = to_false _ (λ h. let r = and→ (and→ (and→ (and→ h).0).0).0 in n (upto→ r.0) (upto→ r.1))

none_in_row : (m : List ℕ) (b a : ℕ) → (1 ≤ a → a ≤ 128 → ⊥) → in_row m b a ≡ false
unfolding in_row
none_in_row m b a n = to_false _ (λ h. let r = and→ (and→ h).0 in n (upto→ (and→ r.0).1) (upto→ r.1))

-- rows of zeros have no vertex
pub no_rows : (n b a : ℕ) → in_row (replicate n 0) b a ≡ false
unfolding in_row
no_rows n b a = to_false _ (λ h. not_both (and→ h).1 (no_bit n _))

by_place : (m : List ℕ) (b a : ℕ) → 1 ≤ b → b ≤ 128 → 1 ≤ a → a ≤ 128 → in_row m b a ≡ bit m ((b - 1) * 128 + (a - 1))
unfolding in_row
by_place m b a p q r s = and_true (→and (→and (→and (→upto p) (→upto q)) (→upto r)) (→upto s))

-- THE ROW OF b is the set of two words
pub row_of : (m r : List ℕ) (b : ℕ) → 1 ≤ b → b ≤ 128 → get_or r 0 0 ≡ get_or m ((b - 1) * 2) 0 → get_or r 1 0 ≡ get_or m ((b - 1) * 2 + 1) 0 → (a : ℕ) → takes_part 128 r a ≡ in_row m b a
row_of m r b p q e f a =
    two_words r m (b - 1) e f a (λ n. sym (none_in_row m b a n)) (λ l h k. k ∙ sym (by_place m b a p q l h))

-- the row of b is stored anew
after_size : (m : List ℕ) (b w v : ℕ) → length (set (set m ((b - 1) * 2) w) ((b - 1) * 2 + 1) v) ≡ length m
after_size m b w v = length-set (set m ((b - 1) * 2) w) ((b - 1) * 2 + 1) v ∙ length-set m ((b - 1) * 2) w

module _ (m : List ℕ) (size : length m ≡ 256) (b : ℕ) (low : 1 ≤ b) (high : b ≤ 128) (w v : ℕ) where
  abbrev after : List ℕ
  after = set (set m ((b - 1) * 2) w) ((b - 1) * 2 + 1) v

  stays : (k : ℕ) → (k ≡ (b - 1) * 2 → ⊥) → (k ≡ (b - 1) * 2 + 1 → ⊥) → get_or after k 0 ≡ get_or m k 0
  stays k n o = get_or-set_other (set m ((b - 1) * 2) w) ((b - 1) * 2 + 1) k v 0 o ∙ get_or-set_other m ((b - 1) * 2) k w 0 n

  first_word : get_or after ((b - 1) * 2) 0 ≡ w
  first_word = get_or-set_other (set m ((b - 1) * 2) w) ((b - 1) * 2 + 1) ((b - 1) * 2) v 0 (λ (e : (b - 1) * 2 ≡ (b - 1) * 2 + 1). omega arith) ∙ get_or-set_same m ((b - 1) * 2) w 0 (omega arith)

  second_word : get_or after ((b - 1) * 2 + 1) 0 ≡ v
  second_word = get_or-set_same (set m ((b - 1) * 2) w) ((b - 1) * 2 + 1) v 0 (let z : length (set m ((b - 1) * 2) w) ≡ length m = length-set m ((b - 1) * 2) w in omega arith)

  pub row_stored : (c a : ℕ) → in_row (set (set m ((b - 1) * 2) w) ((b - 1) * 2 + 1) v) c a ≡ (provided c is b then takes_part 128 (w ∷ v ∷ []) a else in_row m c a)
  row_stored c a = go (decide (c is b))
    where
      there : ((1 upto c and c upto 128) ≡ true) ⊎ ((1 upto c and c upto 128) ≡ false) → (c ≡ b → ⊥) → in_row after c a ≡ in_row m c a
      there (inl k) n =
          let p : 1 ≤ c = upto→ (and→ k).0 in
          let q : c ≤ 128 = upto→ (and→ k).1 in
          let r : List ℕ = get_or m ((c - 1) * 2) 0 ∷ get_or m ((c - 1) * 2 + 1) 0 ∷ [] in
          sym (row_of after r c p q
          (sym (stays ((c - 1) * 2) (λ (e : (c - 1) * 2 ≡ (b - 1) * 2). n (omega arith)) (λ (e : (c - 1) * 2 ≡ (b - 1) * 2 + 1). omega arith)))
          (sym (stays ((c - 1) * 2 + 1) (λ (e : (c - 1) * 2 + 1 ≡ (b - 1) * 2). omega arith) (λ (e : (c - 1) * 2 + 1 ≡ (b - 1) * 2 + 1). n (omega arith)))) a)
          ∙ row_of m r c p q refl refl a
      there (inr k) n = let o : 1 ≤ c → c ≤ 128 → ⊥ = λ p q. not_both (→and (→upto p) (→upto q)) k in no_row after c o a ∙ sym (no_row m c o a)

      go : ((c is b) ≡ true) ⊎ ((c is b) ≡ false) → in_row after c a ≡ (provided c is b then takes_part 128 (w ∷ v ∷ []) a else in_row m c a)
      go (inl k) =
          let e : c ≡ b = is→ k in
          ap (λ (z : ℕ). in_row after z a) e ∙ sym (row_of after (w ∷ v ∷ []) b low high (sym first_word) (sym second_word) a) ∙ sym (provided_true _ _ k)
      go (inr k) = there (decide (1 upto c and c upto 128)) (isnt→ k) ∙ sym (provided_false _ _ k)

-- `put_row` stores a set
pub row_put : (m s : List ℕ) (b : ℕ) → length m ≡ 256 → 1 ≤ b → b ≤ 128 → PutRow m s b (set (set m ((b - 1) * 2) (get_or s 0 0)) ((b - 1) * 2 + 1) (get_or s 1 0))
row_put m s b size low high =
    record {
      size = after_size m b (get_or s 0 0) (get_or s 1 0);
      each = λ c a. row_stored m size b low high (get_or s 0 0) (get_or s 1 0) c a
          ∙ ap (λ (t : Bool). provided c is b then t else in_row m c a) (word_by_word (λ x y. x) refl (get_or s 0 0 ∷ get_or s 1 0 ∷ []) s s (λ x. refl) (λ x. refl) a);
    }

-- `join` stores the row with a set's vertices too
pub row_joined : (m s : List ℕ) (b w v : ℕ) → 1 ≤ b → b ≤ 128
    → ((x : ℕ) → marked w x ≡ (marked (get_or m ((b - 1) * 2) 0) x or marked (get_or s 0 0) x)) → ((x : ℕ) → marked v x ≡ (marked (get_or (set m ((b - 1) * 2) w) ((b - 1) * 2 + 1) 0) x or marked (get_or s 1 0) x))
    → Joins m s b (set (set m ((b - 1) * 2) w) ((b - 1) * 2 + 1) v)
row_joined m s b w v low high p q =
    record {
      size = after_size m b w v;
      each = λ size c a. row_stored m size b low high w v c a ∙ go c a (decide (c is b));
    }
  where
    other : get_or (set m ((b - 1) * 2) w) ((b - 1) * 2 + 1) 0 ≡ get_or m ((b - 1) * 2 + 1) 0
    other = get_or-set_other m ((b - 1) * 2) ((b - 1) * 2 + 1) w 0 (λ (e : (b - 1) * 2 + 1 ≡ (b - 1) * 2). omega arith)

    here : (a : ℕ) → takes_part 128 (w ∷ v ∷ []) a ≡ (in_row m b a or takes_part 128 s a)
    here a =
        word_by_word ◌or◌ (unfold ◌or◌ in refl) (w ∷ v ∷ []) (get_or m ((b - 1) * 2) 0 ∷ get_or m ((b - 1) * 2 + 1) 0 ∷ []) s p (λ x. q x ∙ ap (λ (z : ℕ). marked z x or marked (get_or s 1 0) x) other) a
        ∙ ap (λ (t : Bool). t or takes_part 128 s a) (row_of m (get_or m ((b - 1) * 2) 0 ∷ get_or m ((b - 1) * 2 + 1) 0 ∷ []) b low high refl refl a)

    go : (c a : ℕ) → ((c is b) ≡ true) ⊎ ((c is b) ≡ false) → (provided c is b then takes_part 128 (w ∷ v ∷ []) a else in_row m c a) ≡ (in_row m c a or (c is b and 1 upto b and b upto 128 and takes_part 128 s a))
    go c a (inl k) =
        let e : c ≡ b = is→ k in
        provided_true _ _ k ∙ here a ∙ ap (λ (z : ℕ). in_row m z a or takes_part 128 s a) (sym e) ∙ ap (λ (t : Bool). in_row m c a or t) (sym (and_true (→and (→and k (→upto low)) (→upto high))))
    go c a (inr k) = provided_false _ _ k ∙ sym (or_no (in_row m c a) (and_no_left _ (and_no_left _ (and_no_left _ k))))

-- .. and leaves the rows as they are where b is no vertex
pub none_joined : (m s : List ℕ) (b : ℕ) → (1 ≤ b → b ≤ 128 → ⊥) → Joins m s b m
none_joined m s b n =
    record {
      size = refl;
      each = λ _ c a. sym (or_no (in_row m c a) (and_no_left _ (to_false _ (λ h. let r = and→ h in n (upto→ (and→ r.0).1) (upto→ r.1)))));
    }

-- ONE VERTEX OF A ROW, by its word
module _ (m : List ℕ) (size : length m ≡ 256) (b a : ℕ) (p : 1 ≤ b) (q : b ≤ 128) (r : 1 ≤ a) (s : a ≤ 128) where
  word : ((b - 1) * 128 + (a - 1)) / 64 ≡ (b - 1) * 2 + (a - 1) / 64
  word = omega arith

  place : ((b - 1) * 128 + (a - 1)) % 64 ≡ (a - 1) % 64
  place = omega arith

  -- the word without its mark
  dropped_each : (c d : ℕ) → in_row (set m ((b - 1) * 2 + (a - 1) / 64) (less (get_or m ((b - 1) * 2 + (a - 1) / 64) 0) ((a - 1) % 64))) c d ≡ (in_row m c d and fails (c is b and d is a))
  unfolding in_row without_bit
  dropped_each c d = go (decide (1 upto c and c upto 128 and 1 upto d and d upto 128))
    where
      bits_after : bit (set m ((b - 1) * 2 + (a - 1) / 64) (less (get_or m ((b - 1) * 2 + (a - 1) / 64) 0) ((a - 1) % 64))) ((c - 1) * 128 + (d - 1)) ≡ (bit m ((c - 1) * 128 + (d - 1)) and fails (((c - 1) * 128 + (d - 1)) is ((b - 1) * 128 + (a - 1))))
      bits_after = subst (λ (l : List ℕ). bit l ((c - 1) * 128 + (d - 1)) ≡ (bit m ((c - 1) * 128 + (d - 1)) and fails (((c - 1) * 128 + (d - 1)) is ((b - 1) * 128 + (a - 1))))) (rw (word, place) refl) (bit_less m ((b - 1) * 128 + (a - 1)) (omega arith) ((c - 1) * 128 + (d - 1)))

      same : 1 ≤ c → c ≤ 128 → 1 ≤ d → d ≤ 128 → (c is b and d is a) ≡ (((c - 1) * 128 + (d - 1)) is ((b - 1) * 128 + (a - 1)))
      same i j k l =
          same_test (λ h. let u : c ≡ b = is→ (and→ h).0 in let v : d ≡ a = is→ (and→ h).1 in →is (omega arith))
          (λ h. let u : (c - 1) * 128 + (d - 1) ≡ (b - 1) * 128 + (a - 1) = is→ h in →and (→is (omega arith)) (→is (omega arith)))

      go : ((1 upto c and c upto 128 and 1 upto d and d upto 128) ≡ true) ⊎ ((1 upto c and c upto 128 and 1 upto d and d upto 128) ≡ false)
          → (1 upto c and c upto 128 and 1 upto d and d upto 128 and bit (set m ((b - 1) * 2 + (a - 1) / 64) (less (get_or m ((b - 1) * 2 + (a - 1) / 64) 0) ((a - 1) % 64))) ((c - 1) * 128 + (d - 1))) ≡ (1 upto c and c upto 128 and 1 upto d and d upto 128 and bit m ((c - 1) * 128 + (d - 1)) and fails (c is b and d is a))
      go (inr e) = and_no_left _ e ∙ sym (and_no_left _ (and_no_left _ e))
      go (inl e) =
          let x = and→ e in
          let y = and→ x.0 in
          let z = and→ y.0 in
          and_true e ∙ bits_after ∙ sym (ap (λ (t : Bool). t and fails (c is b and d is a)) (and_true e) ∙ ap (λ (t : Bool). bit m ((c - 1) * 128 + (d - 1)) and fails t) (same (upto→ z.0) (upto→ z.1) (upto→ y.1) (upto→ x.1)))

  pub row_dropped : {w : ℕ} → w ≡ less (get_or m ((b - 1) * 2 + (a - 1) / 64) 0) ((a - 1) % 64) → Drops m a b (set m ((b - 1) * 2 + (a - 1) / 64) w)
  row_dropped f = rw f (record { size = length-set m _ _; each = dropped_each })

-- A SET IS ITS MEMBERS, AND ROWS ARE THEIR SETS: two runs of words with the same vertices are one
pub same_set : (r s : List ℕ) → length r ≡ 2 → length s ≡ 2 → ((i : ℕ) → get_or r i 0 < 2 ^ 64) → ((i : ℕ) → get_or s i 0 < 2 ^ 64) → ((t : ℕ) → takes_part 128 r t ≡ takes_part 128 s t) → r ≡ s
same_set r s p q f g e =
    ext_get_or 0 r s (p ∙ sym q) (λ (i : ℕ) (h : i < length r). same_marks 64 (get_or r i 0) (get_or s i 0) (f i) (g i)
    (λ (x : ℕ) (k : x < 64). sym (member r i x (omega arith) k) ∙ e (i * 64 + x + 1) ∙ member s i x (omega arith) k))
  where
    member : (l : List ℕ) (i x : ℕ) → i < 2 → x < 64 → takes_part 128 l (i * 64 + x + 1) ≡ marked (get_or l i 0) x
    member l i x h k = let z : i * 64 + x + 1 - 1 ≡ i * 64 + x = omega arith in by_bit l (i * 64 + x + 1) (omega arith) (omega arith) ∙ ap (bit l) z ∙ bit_at l i x k

pub same_rows : (m n : List ℕ) → length m ≡ 256 → length n ≡ 256 → ((i : ℕ) → get_or m i 0 < 2 ^ 64) → ((i : ℕ) → get_or n i 0 < 2 ^ 64) → ((b a : ℕ) → in_row m b a ≡ in_row n b a) → m ≡ n
same_rows m n p q f g e =
    ext_get_or 0 m n (p ∙ sym q) (λ (i : ℕ) (h : i < length m). same_marks 64 (get_or m i 0) (get_or n i 0) (f i) (g i)
    (λ (x : ℕ) (k : x < 64). sym (member m i x (omega arith) k) ∙ e (i / 2 + 1) (i % 2 * 64 + x + 1) ∙ member n i x (omega arith) k))
  where
    member : (l : List ℕ) (i x : ℕ) → i < 256 → x < 64 → in_row l (i / 2 + 1) (i % 2 * 64 + x + 1) ≡ marked (get_or l i 0) x
    member l i x h k =
        let z : (i / 2 + 1 - 1) * 128 + (i % 2 * 64 + x + 1 - 1) ≡ i * 64 + x = omega arith in
        by_place l (i / 2 + 1) (i % 2 * 64 + x + 1) (omega arith) (omega arith) (omega arith) (omega arith) ∙ ap (bit l) z ∙ bit_at l i x k
