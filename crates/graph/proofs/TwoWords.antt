-- A set of vertices in two words of marks, and rows of such sets.
use mathlib.Core.Path.{◌≡◌, refl, sym, ap, ap₂, ◌∙◌}
use mathlib.Core.Bool.{Bool, true, false}
use mathlib.Core.Logic.{◌⊎◌, inl, inr, ⊎_elim}
use mathlib.Core.List.{List, [], ◌∷◌}
use Prim.Native.Nat.{ℕ, ◌+◌, ◌-◌, ◌*◌, ◌/◌, ◌%◌, ◌≤◌, ◌<◌}
use native.Mathlib.Omega.{arith}
use lib.ListN.{length, get_or, set, replicate}
use Rattle.words.specs.Tests.{◌is◌, ◌below◌, ◌upto◌, ◌and◌, ◌or◌, provided◌then◌else◌, some, lowest}
use Rattle.words.proofs.Truth.{decide, not_both, to_false, same_test, and→, →and, and_true, and_no_left, and_true_right, or_false, is→, →is, →isnt, below→, →below, upto→, →upto, not_upto→, provided_true, some→, →some, none→, lowest_is, lowest_at, lowest_none, below_lowest}
use Rattle.bits.specs.Word.{marked, more}
use Rattle.bits.specs.Run.{bit}
use Rattle.bits.proofs.Marks.{no_mark}
use Rattle.bits.proofs.Runs.{bit_at, bit_more, no_bit}
use Rattle.graph.specs.Matrix.{takes_part}

-- a number that is no vertex, or one with its mark in the first word, or in the second
data Place (v : ℕ) : Type 0 where
  outside : (1 ≤ v → v ≤ 128 → ⊥) → Place v
  low : 1 ≤ v → v ≤ 64 → Place v
  high : 65 ≤ v → v ≤ 128 → Place v

place : (v : ℕ) → Place v
place v = go (decide (1 upto v)) (decide (v upto 64)) (decide (v upto 128))
  where
    go : ((1 upto v) ≡ true) ⊎ ((1 upto v) ≡ false) → ((v upto 64) ≡ true) ⊎ ((v upto 64) ≡ false) → ((v upto 128) ≡ true) ⊎ ((v upto 128) ≡ false) → Place v
    go (inl a) (inl b) c = low (upto→ a) (upto→ b)
    go (inl a) (inr b) (inl c) = high (let z : 64 < v = not_upto→ b in omega arith) (upto→ c)
    go (inl a) (inr b) (inr c) = outside (λ (p : 1 ≤ v) (q : v ≤ 128). let z : 128 < v = not_upto→ c in omega arith)
    go (inr a) b c = outside (λ (p : 1 ≤ v) (q : v ≤ 128). let z : v < 1 = not_upto→ a in omega arith)

module _ (s : List ℕ) where
  pub no_vertex : (v : ℕ) → (1 ≤ v → v ≤ 128 → ⊥) → takes_part 128 s v ≡ false
  unfolding takes_part
  no_vertex v n = to_false _ (λ h. let r = and→ (and→ h).0 in n (upto→ r.0) (upto→ r.1))

  pub by_bit : (v : ℕ) → 1 ≤ v → v ≤ 128 → takes_part 128 s v ≡ bit s (v - 1)
  unfolding takes_part
  by_bit v l h = and_true (→and (→upto l) (→upto h))

  low_word : (v : ℕ) → 1 ≤ v → v ≤ 64 → takes_part 128 s v ≡ marked (get_or s 0 0) (v - 1)
  low_word v l h =
      let e : v - 1 ≡ 0 * 64 + (v - 1) = omega arith in
      by_bit v l (omega arith) ∙ ap (bit s) e ∙ bit_at s 0 (v - 1) (omega arith)

  high_word : (v : ℕ) → 65 ≤ v → v ≤ 128 → takes_part 128 s v ≡ marked (get_or s 1 0) (v - 65)
  high_word v l h =
      let e : v - 1 ≡ 1 * 64 + (v - 65) = omega arith in
      by_bit v (omega arith) h ∙ ap (bit s) e ∙ bit_at s 1 (v - 65) (omega arith)

  -- the vertex of a mark
  low_vertex : (x : ℕ) → x < 64 → takes_part 128 s (x + 1) ≡ marked (get_or s 0 0) x
  low_vertex x h = let e : x + 1 - 1 ≡ x = omega arith in low_word (x + 1) (omega arith) (omega arith) ∙ ap (marked (get_or s 0 0)) e

  high_vertex : (x : ℕ) → x < 64 → takes_part 128 s (x + 65) ≡ marked (get_or s 1 0) x
  high_vertex x h = let e : x + 65 - 65 ≡ x = omega arith in high_word (x + 65) (omega arith) (omega arith) ∙ ap (marked (get_or s 1 0)) e

  -- a vertex of the set is in the first word or in the second
  pub any_low : some 64 (marked (get_or s 0 0)) ≡ true → some 129 (takes_part 128 s) ≡ true
  any_low h = let r = some→ h in →some _ (r.0 + 1) (omega (arith, r.1)) (low_vertex r.0 r.1 ∙ r.2)

  not_low : some 64 (marked (get_or s 0 0)) ≡ false → (v : ℕ) → v ≤ 64 → takes_part 128 s v ≡ false
  not_low n v h =
      ⊎_elim (λ (a : (1 upto v) ≡ true). let l : 1 ≤ v = upto→ a in low_word v l h ∙ none→ _ n (v - 1) (omega arith))
      (λ (a : (1 upto v) ≡ false). no_vertex v (λ (p : 1 ≤ v) _. let z : v < 1 = not_upto→ a in omega arith)) (decide (1 upto v))

  pub any_high : some 64 (marked (get_or s 0 0)) ≡ false → some 64 (marked (get_or s 1 0)) ≡ some 129 (takes_part 128 s)
  any_high n = same_test (λ h. let r = some→ h in →some _ (r.0 + 65) (omega (arith, r.1)) (high_vertex r.0 r.1 ∙ r.2)) (λ h. let r = some→ h in go r.0 r.1 r.2 (decide (r.0 upto 64)))
    where
      go : (v : ℕ) → v < 129 → takes_part 128 s v ≡ true → ((v upto 64) ≡ true) ⊎ ((v upto 64) ≡ false) → some 64 (marked (get_or s 1 0)) ≡ true
      go v l t (inl a) = absurd (not_both t (not_low n v (upto→ a)))
      go v l t (inr a) = let z : 64 < v = not_upto→ a in →some _ (v - 65) (omega arith) (sym (high_word v (omega arith) (omega arith)) ∙ t)

  -- the lowest
  pub first_low : some 64 (marked (get_or s 0 0)) ≡ true → lowest 64 (marked (get_or s 0 0)) + 1 ≡ lowest 129 (takes_part 128 s)
  first_low h =
      let r = lowest_is (marked (get_or s 0 0)) h in
      let k : lowest 64 (marked (get_or s 0 0)) < 64 = r.0 in
      sym (lowest_at (takes_part 128 s) (lowest 64 (marked (get_or s 0 0)) + 1) (omega arith) (low_vertex _ k ∙ r.1) (λ (j : ℕ) (l : j < lowest 64 (marked (get_or s 0 0)) + 1). before j l (decide (1 upto j))))
    where
      before : (j : ℕ) → j < lowest 64 (marked (get_or s 0 0)) + 1 → ((1 upto j) ≡ true) ⊎ ((1 upto j) ≡ false) → takes_part 128 s j ≡ false
      before j l (inl a) =
          let z : 1 ≤ j = upto→ a in
          let k : lowest 64 (marked (get_or s 0 0)) < 64 = (lowest_is (marked (get_or s 0 0)) h).0 in
          low_word j z (omega arith) ∙ below_lowest 64 (marked (get_or s 0 0)) (j - 1) (omega arith)
      before j l (inr a) = no_vertex j (λ (p : 1 ≤ j) _. let z : j < 1 = not_upto→ a in omega arith)

  pub first_high : some 64 (marked (get_or s 0 0)) ≡ false → lowest 64 (marked (get_or s 1 0)) + 65 ≡ lowest 129 (takes_part 128 s)
  first_high n = go (decide (some 64 (marked (get_or s 1 0))))
    where
      before : (j : ℕ) → j < lowest 64 (marked (get_or s 1 0)) + 65 → j ≤ 128 → ((j upto 64) ≡ true) ⊎ ((j upto 64) ≡ false) → takes_part 128 s j ≡ false
      before j l b (inl a) = not_low n j (upto→ a)
      before j l b (inr a) = let z : 64 < j = not_upto→ a in high_word j (omega arith) b ∙ below_lowest 64 (marked (get_or s 1 0)) (j - 65) (omega arith)

      go : (some 64 (marked (get_or s 1 0)) ≡ true) ⊎ (some 64 (marked (get_or s 1 0)) ≡ false) → lowest 64 (marked (get_or s 1 0)) + 65 ≡ lowest 129 (takes_part 128 s)
      go (inl h) =
          let r = lowest_is (marked (get_or s 1 0)) h in
          let k : lowest 64 (marked (get_or s 1 0)) < 64 = r.0 in
          sym (lowest_at (takes_part 128 s) (lowest 64 (marked (get_or s 1 0)) + 65) (omega arith) (high_vertex _ k ∙ r.1) (λ (j : ℕ) (l : j < lowest 64 (marked (get_or s 1 0)) + 65). before j l (omega arith) (decide (j upto 64))))
      go (inr h) =
          let e : lowest 64 (marked (get_or s 1 0)) ≡ 64 = lowest_none _ h in
          sym (lowest_none _ (sym (any_high n) ∙ h) ∙ sym (ap (λ (k : ℕ). k + 65) e))

-- what is done to two sets word by word is done to their members
pub word_by_word : (f : Bool → Bool → Bool) → f false false ≡ false → (r a b : List ℕ)
    → ((x : ℕ) → marked (get_or r 0 0) x ≡ f (marked (get_or a 0 0) x) (marked (get_or b 0 0) x)) → ((x : ℕ) → marked (get_or r 1 0) x ≡ f (marked (get_or a 1 0) x) (marked (get_or b 1 0) x))
    → (t : ℕ) → takes_part 128 r t ≡ f (takes_part 128 a t) (takes_part 128 b t)
word_by_word f n r a b p q t = go (place t)
  where
    go : Place t → takes_part 128 r t ≡ f (takes_part 128 a t) (takes_part 128 b t)
    go (outside o) = no_vertex r t o ∙ sym (ap₂ f (no_vertex a t o) (no_vertex b t o) ∙ n)
    go (low l h) = low_word r t l h ∙ p (t - 1) ∙ sym (ap₂ f (low_word a t l h) (low_word b t l h))
    go (high l h) = high_word r t l h ∙ q (t - 65) ∙ sym (ap₂ f (high_word a t l h) (high_word b t l h))

-- the words of a set stand among others, two for each
pub two_words : (r m : List ℕ) (i : ℕ) → get_or r 0 0 ≡ get_or m (i * 2) 0 → get_or r 1 0 ≡ get_or m (i * 2 + 1) 0 → (a : ℕ) {x : Bool}
    → ((1 ≤ a → a ≤ 128 → ⊥) → false ≡ x) → (1 ≤ a → a ≤ 128 → takes_part 128 r a ≡ bit m (i * 128 + (a - 1)) → takes_part 128 r a ≡ x) → takes_part 128 r a ≡ x
two_words r m i e f a {x} none found = go (place a)
  where
    go : Place a → takes_part 128 r a ≡ x
    go (outside o) = no_vertex r a o ∙ none o
    go (low l h) =
        let z : i * 2 * 64 + (a - 1) ≡ i * 128 + (a - 1) = omega arith in
        found l (omega arith) (low_word r a l h ∙ ap (λ (w : ℕ). marked w (a - 1)) e ∙ sym (bit_at m (i * 2) (a - 1) (omega arith)) ∙ ap (bit m) z)
    go (high l h) =
        let z : (i * 2 + 1) * 64 + (a - 65) ≡ i * 128 + (a - 1) = omega arith in
        found (omega arith) h (high_word r a l h ∙ ap (λ (w : ℕ). marked w (a - 65)) f ∙ sym (bit_at m (i * 2 + 1) (a - 65) (omega arith)) ∙ ap (bit m) z)

-- what is above s, where s is in the first word or behind it
pub above_low : (r a : List ℕ) (s : ℕ) → s < 64 → ((x : ℕ) → marked (get_or r 0 0) x ≡ (s upto x and marked (get_or a 0 0) x)) → get_or r 1 0 ≡ get_or a 1 0
    → (t : ℕ) → takes_part 128 r t ≡ (takes_part 128 a t and s below t)
above_low r a s small p q t = go (place t)
  where
    go : Place t → takes_part 128 r t ≡ (takes_part 128 a t and s below t)
    go (outside o) = no_vertex r t o ∙ sym (and_no_left _ (no_vertex a t o))
    go (low l h) =
        low_word r t l h ∙ p (t - 1) ∙ sym (ap (λ (z : Bool). z and s below t) (low_word a t l h)
        ∙ same_test (λ k. let w : s < t = below→ (and→ k).1 in →and (→upto (omega arith)) (and→ k).0) (λ k. let w : s ≤ t - 1 = upto→ (and→ k).0 in →and (and→ k).1 (→below (omega arith))))
    go (high l h) = high_word r t l h ∙ ap (λ (w : ℕ). marked w (t - 65)) q ∙ sym (high_word a t l h) ∙ sym (and_true_right _ (→below (omega arith)))

pub above_high : (r a : List ℕ) (s : ℕ) → 64 ≤ s → get_or r 0 0 ≡ 0 → ((x : ℕ) → marked (get_or r 1 0) x ≡ (s - 64 upto x and marked (get_or a 1 0) x))
    → (t : ℕ) → takes_part 128 r t ≡ (takes_part 128 a t and s below t)
above_high r a s big p q t = go (place t)
  where
    go : Place t → takes_part 128 r t ≡ (takes_part 128 a t and s below t)
    go (outside o) = no_vertex r t o ∙ sym (and_no_left _ (no_vertex a t o))
    go (low l h) = low_word r t l h ∙ ap (λ (w : ℕ). marked w (t - 1)) p ∙ no_mark (t - 1) ∙ sym (to_false _ (λ k. let w : s < t = below→ (and→ k).1 in omega arith))
    go (high l h) =
        high_word r t l h ∙ q (t - 65) ∙ sym (ap (λ (z : Bool). z and s below t) (high_word a t l h)
        ∙ same_test (λ k. let w : s < t = below→ (and→ k).1 in →and (→upto (omega arith)) (and→ k).0) (λ k. let w : s - 64 ≤ t - 65 = upto→ (and→ k).0 in →and (and→ k).1 (→below (omega arith))))

-- one vertex more
with_one : (s : List ℕ) (v : ℕ) → length s ≡ 2 → 1 ≤ v → v ≤ 128 → (t : ℕ)
    → takes_part 128 (set s ((v - 1) / 64) (more (get_or s ((v - 1) / 64) 0) ((v - 1) % 64))) t ≡ (t is v and 1 upto v and v upto 128 or takes_part 128 s t)
with_one s v size l h t = go (decide (1 upto t and t upto 128))
  where
    after : List ℕ
    after = set s ((v - 1) / 64) (more (get_or s ((v - 1) / 64) 0) ((v - 1) % 64))

    here : (t is v and 1 upto v and v upto 128) ≡ (t is v)
    here = and_true_right _ (→upto h) ∙ and_true_right _ (→upto l)

    go : ((1 upto t and t upto 128) ≡ true) ⊎ ((1 upto t and t upto 128) ≡ false) → takes_part 128 after t ≡ (t is v and 1 upto v and v upto 128 or takes_part 128 s t)
    go (inl k) =
        let a : 1 ≤ t = upto→ (and→ k).0 in
        let b : t ≤ 128 = upto→ (and→ k).1 in
        by_bit after t a b ∙ bit_more s (v - 1) (omega arith) (t - 1) ∙ ap₂ ◌or◌ (same_test (λ q. let e : t - 1 ≡ v - 1 = is→ q in →is (omega arith)) (λ q. let e : t ≡ v = is→ q in →is (ap (λ (n : ℕ). n - 1) e)) ∙ sym here) (sym (by_bit s t a b))
    go (inr k) =
        let o : 1 ≤ t → t ≤ 128 → ⊥ = λ a b. not_both (→and (→upto a) (→upto b)) k in
        no_vertex after t o ∙ sym (or_false (here ∙ →isnt (λ (e : t ≡ v). o (omega arith) (omega arith))) ∙ no_vertex s t o)

-- .. in the first number, or in the second
two_of : (s : List ℕ) → length s ≡ 2 → s ≡ get_or s 0 0 ∷ get_or s 1 0 ∷ []
two_of [] e = absurd (omega (arith, e))
two_of (a ∷ []) e = absurd (omega (arith, e))
two_of (a ∷ b ∷ []) e = refl
two_of (a ∷ b ∷ c ∷ s) e = absurd (omega (arith, e))

module _ (s : List ℕ) (v : ℕ) (size : length s ≡ 2) where
  pub with_low : {m : ℕ} → 1 ≤ v → v ≤ 64 → m ≡ (provided v - 1 below 64 then more (get_or s 0 0) (v - 1) else get_or s 0 0) → (t : ℕ)
      → takes_part 128 (m ∷ get_or s 1 0 ∷ []) t ≡ (t is v and 1 upto v and v upto 128 or takes_part 128 s t)
  with_low l h e t =
      let q : (v - 1) / 64 ≡ 0 = omega arith in
      let r : (v - 1) % 64 ≡ v - 1 = omega arith in
      rw (e ∙ provided_true _ _ (→below (omega arith))) (ap (λ (z : List ℕ). takes_part 128 (set z 0 (more (get_or s 0 0) (v - 1))) t) (sym (two_of s size)) ∙ (rw (q, r) at (with_one s v size l (omega arith) t)))

  pub with_high : {m : ℕ} → 65 ≤ v → v ≤ 128 → m ≡ (provided v - 65 below 64 then more (get_or s 1 0) (v - 65) else get_or s 1 0) → (t : ℕ)
      → takes_part 128 (get_or s 0 0 ∷ m ∷ []) t ≡ (t is v and 1 upto v and v upto 128 or takes_part 128 s t)
  with_high l h e t =
      let q : (v - 1) / 64 ≡ 1 = omega arith in
      let r : (v - 1) % 64 ≡ v - 65 = omega arith in
      rw (e ∙ provided_true _ _ (→below (omega arith))) (ap (λ (z : List ℕ). takes_part 128 (set z 1 (more (get_or s 1 0) (v - 65))) t) (sym (two_of s size)) ∙ (rw (q, r) at (with_one s v size (omega arith) h t)))

pub none_with : (s : List ℕ) (v : ℕ) → (1 ≤ v → v ≤ 128 → ⊥) → (t : ℕ) → takes_part 128 s t ≡ (t is v and 1 upto v and v upto 128 or takes_part 128 s t)
none_with s v o t = sym (or_false (to_false _ (λ h. let r = and→ h in o (upto→ (and→ r.0).1) (upto→ r.1))))

-- the set of nobody
pub no_member : (n t : ℕ) → takes_part 128 (replicate n 0) t ≡ false
unfolding takes_part
no_member n t = to_false _ (λ h. not_both (and→ h).1 (no_bit n (t - 1)))
