-- The places around one that commits, found one after another, and their edges put into the rows.
use mathlib.Core.Path.{◌≡◌, refl, sym, ap, ap₂, subst, ◌∙◌}
use mathlib.Core.Bool.{Bool, true, false}
use mathlib.Core.Logic.{◌⊎◌, inl, inr, ⊎_elim}
use mathlib.Core.List.{List}
use Prim.Native.Nat.{ℕ, ◌+◌, ◌≤◌, ◌<◌}
use native.Mathlib.Omega.{arith}
use lib.ListN.{length, replicate}
use Rattle.words.specs.Tests.{◌is◌, ◌below◌, ◌upto◌, ◌and◌, ◌or◌, some}
use Rattle.words.proofs.Truth.{decide, same_test, and→, →and, and_no_left, and_no_right, or→, →or_left, →or_right, or_no, is→, isnt→, below→, →below, →not_below, upto→, →upto, none→}
use Rattle.graph.specs.Matrix.{takes_part, in_row, Joins}
use Rattle.graph.proofs.TwoWords.{no_member}
use Rattle.live.specs.Inner.Around.{Finds, JoinsOne, JoinsAround}

-- ONE MORE in a set, where it is asked for
pub joined_if : (those more : List ℕ) (q : ℕ) {joins : Bool} → joins ≡ true → ((v : ℕ) → takes_part 128 more v ≡ (v is q and 1 upto q and q upto 128 or takes_part 128 those v))
    → (v : ℕ) → takes_part 128 more v ≡ (takes_part 128 those v or (v is q and 1 upto q and q upto 128 and joins))
joined_if those more q j e v =
    e v ∙ same_test (λ h. ⊎_elim (λ z. →or_right _ (→and z j)) (λ z. →or_left _ z) (or→ h)) (λ h. ⊎_elim (λ z. →or_right _ z) (λ z. →or_left _ (and→ z).0) (or→ h))

-- those found so far: of the places below q
abbrev pub Found : (ℕ → Bool) → ℕ → List ℕ → Type 0
Found passes q those = (v : ℕ) → takes_part 128 those v ≡ (1 upto v and v below q and passes v)

pub found_none : (passes : ℕ → Bool) (n : ℕ) → Found passes 1 (replicate n 0)
found_none passes n v = no_member n v ∙ sym (and_no_left _ (go (decide (1 upto v))))
  where
    go : ((1 upto v) ≡ true) ⊎ ((1 upto v) ≡ false) → (1 upto v and v below 1) ≡ false
    go (inl e) = and_no_right _ (→not_below (upto→ e))
    go (inr e) = and_no_left _ e

pub found_more : (passes : ℕ → Bool) {q : ℕ} (those more : List ℕ) {joins : Bool} → 1 ≤ q → q ≤ 128 → Found passes q those → joins ≡ passes q
    → ((v : ℕ) → takes_part 128 more v ≡ (takes_part 128 those v or (v is q and 1 upto q and q upto 128 and joins))) → Found passes (q + 1) more
found_more passes {q} those more {joins} low high f j e v = e v ∙ same_test (λ h. ⊎_elim (λ z. old (sym (f v) ∙ z)) new (or→ h)) (λ h. back h (decide (v is q)))
  where
    old : (1 upto v and v below q and passes v) ≡ true → (1 upto v and v below (q + 1) and passes v) ≡ true
    old z = let a = and→ z in let b = and→ a.0 in →and (→and b.0 (→below (let l : v < q = below→ b.1 in omega arith))) a.1

    new : (v is q and 1 upto q and q upto 128 and joins) ≡ true → (1 upto v and v below (q + 1) and passes v) ≡ true
    new z = let a = and→ z in let w : v ≡ q = is→ (and→ (and→ a.0).0).0 in rw w (→and (→and (→upto low) (→below (omega arith))) (sym j ∙ a.1))

    back : (1 upto v and v below (q + 1) and passes v) ≡ true → ((v is q) ≡ true) ⊎ ((v is q) ≡ false) → (takes_part 128 those v or (v is q and 1 upto q and q upto 128 and joins)) ≡ true
    back z (inl w) = →or_right _ (→and (→and (→and w (→upto low)) (→upto high)) (j ∙ subst (λ (i : ℕ). passes i ≡ true) (is→ w) (and→ z).1))
    back z (inr w) = let a = and→ z in let b = and→ a.0 in let n : v ≡ q → ⊥ = isnt→ w in →or_left _ (f v ∙ →and (→and b.0 (→below (let l : v < q + 1 = below→ b.1 in omega arith))) a.1)

pub found_all : (passes : ℕ → Bool) {q : ℕ} (n : ℕ) (those : List ℕ) → q ≡ n + 1 → Found passes q those → Finds passes n those
found_all passes {q} n those e f v =
    f v ∙ ap (λ (b : Bool). 1 upto v and b and passes v) (same_test (λ h. →upto (let l : v < q = below→ h in omega arith)) (λ h. →below (let l : v ≤ n = upto→ h in omega arith)))

-- EDGES TO ONE PLACE
pub joined_one : {edges those asked next : List ℕ} {q : ℕ} → length edges ≡ 256 → takes_part 128 asked q ≡ true → Joins edges those q next → JoinsOne edges those asked q next
unfolding takes_part
joined_one {edges} {those} {asked} {next} {q} size t j =
    record {
      size = j.size;
      each = λ c a. j.each size c a ∙ ap (λ (b : Bool). in_row edges c a or (b and takes_part 128 those a)) (same_test (λ h. →and (and→ (and→ h).0).0 t) (λ h. let r = and→ (and→ t).0 in →and (→and (and→ h).0 r.0) r.1));
    }

pub joined_none : {edges those asked : List ℕ} {q : ℕ} → takes_part 128 asked q ≡ false → JoinsOne edges those asked q edges
joined_none t = record { size = refl; each = λ c a. sym (or_no _ (and_no_left _ (and_no_right _ t))) }

-- EDGES AROUND p: those to the places below q are there
pub record Joining (edges after : List ℕ) (p q : ℕ) (next : List ℕ) : Type 0 where
  pub size : length next ≡ length edges
  pub each : (c a : ℕ) → in_row next c a ≡ (in_row edges c a or (a is p and (1 upto c and c below q and takes_part 128 after c)))

pub joining_none : (edges after : List ℕ) (p : ℕ) → Joining edges after p 1 edges
joining_none edges after p = record { size = refl; each = λ c a. sym (or_no _ (and_no_right _ (and_no_left _ (go c (decide (1 upto c)))))) }
  where
    go : (c : ℕ) → ((1 upto c) ≡ true) ⊎ ((1 upto c) ≡ false) → (1 upto c and c below 1) ≡ false
    go c (inl e) = and_no_right _ (→not_below (upto→ e))
    go c (inr e) = and_no_left _ e

pub joining_more : {edges after only next more : List ℕ} {p q : ℕ} → 1 ≤ p → p ≤ 128 → 1 ≤ q → ((v : ℕ) → takes_part 128 only v ≡ (v is p and 1 upto p and p upto 128 or takes_part 128 (replicate 2 0) v))
    → Joining edges after p q next → JoinsOne next only after q more → Joining edges after p (q + 1) more
joining_more {edges} {after} {only} {next} {more} {p} {q} low high from o j k =
    record { size = k.size ∙ j.size; each = λ c a. k.each c a ∙ ap (λ (b : Bool). b or (c is q and takes_part 128 after q and takes_part 128 only a)) (j.each c a) ∙ go c a }
  where
    alone : (a : ℕ) → takes_part 128 only a ≡ (a is p)
    alone a = o a ∙ or_no _ (no_member 2 a) ∙ same_test (λ h. (and→ (and→ h).0).0) (λ h. →and (→and h (→upto low)) (→upto high))

    go : (c a : ℕ) → (in_row edges c a or (a is p and (1 upto c and c below q and takes_part 128 after c)) or (c is q and takes_part 128 after q and takes_part 128 only a))
        ≡ (in_row edges c a or (a is p and (1 upto c and c below (q + 1) and takes_part 128 after c)))
    go c a = same_test (λ h. ⊎_elim (λ z. ⊎_elim (λ y. →or_left _ y) (λ y. →or_right _ (old y)) (or→ z)) (λ z. →or_right _ (new z)) (or→ h)) (λ h. ⊎_elim (λ z. →or_left _ (→or_left _ z)) (λ z. back z (decide (c is q))) (or→ h))
      where
        old : (a is p and (1 upto c and c below q and takes_part 128 after c)) ≡ true → (a is p and (1 upto c and c below (q + 1) and takes_part 128 after c)) ≡ true
        old z = let r = and→ z in let s = and→ r.1 in let u = and→ s.0 in →and r.0 (→and (→and u.0 (→below (let l : c < q = below→ u.1 in omega arith))) s.1)

        new : (c is q and takes_part 128 after q and takes_part 128 only a) ≡ true → (a is p and (1 upto c and c below (q + 1) and takes_part 128 after c)) ≡ true
        new z =
            let r = and→ z in
            let s = and→ r.0 in
            let w : c ≡ q = is→ s.0 in
            →and (sym (alone a) ∙ r.1) (rw w (→and (→and (→upto from) (→below (omega arith))) s.1))

        back : (a is p and (1 upto c and c below (q + 1) and takes_part 128 after c)) ≡ true → ((c is q) ≡ true) ⊎ ((c is q) ≡ false)
            → (in_row edges c a or (a is p and (1 upto c and c below q and takes_part 128 after c)) or (c is q and takes_part 128 after q and takes_part 128 only a)) ≡ true
        back z (inl w) = let r = and→ z in →or_right _ (→and (→and w (subst (λ (i : ℕ). takes_part 128 after i ≡ true) (is→ w) (and→ r.1).1)) (alone a ∙ r.0))
        back z (inr w) =
            let r = and→ z in
            let s = and→ r.1 in
            let u = and→ s.0 in
            let n : c ≡ q → ⊥ = isnt→ w in
            →or_left _ (→or_right _ (→and r.0 (→and (→and u.0 (→below (let l : c < q + 1 = below→ u.1 in omega arith))) s.1)))

joined_at : {edges before first : List ℕ} {p : ℕ} → length edges ≡ 256 → 1 ≤ p → p ≤ 128 → Joins edges before p first → (c a : ℕ) → in_row first c a ≡ (in_row edges c a or (c is p and takes_part 128 before a))
joined_at {edges} {before} size low high j c a = j.each size c a ∙ ap (λ (b : Bool). in_row edges c a or (b and takes_part 128 before a)) (same_test (λ h. (and→ (and→ h).0).0) (λ h. →and (→and h (→upto low)) (→upto high)))

pub joining_all : {edges before after first next : List ℕ} {p q n : ℕ} → length edges ≡ 256 → 1 ≤ p → p ≤ 128 → q ≡ n + 1 → Joins edges before p first → Joining first after p q next → JoinsAround edges before after p n next
joining_all {edges} {before} {after} {first} {next} {p} {q} {n} size low high e j k =
    record {
      size = k.size ∙ j.size;
      each = λ c a. k.each c a ∙ ap₂ (λ (x y : Bool). x or y) (joined_at size low high j c a)
          (ap (λ (b : Bool). a is p and (1 upto c and b and takes_part 128 after c)) (same_test (λ h. →upto (let l : c < q = below→ h in omega arith)) (λ h. →below (let l : c ≤ n = upto→ h in omega arith))));
    }

-- nobody is after it
pub joining_before : {edges before after first : List ℕ} {p n : ℕ} → length edges ≡ 256 → 1 ≤ p → p ≤ 128 → n ≤ 128 → some 129 (takes_part 128 after) ≡ false → Joins edges before p first → JoinsAround edges before after p n first
joining_before {edges} {before} {after} {first} {p} {n} size low high m none j = record { size = j.size; each = λ c a. joined_at size low high j c a ∙ sym (or_no _ (and_no_right _ (go c (decide (c upto n))))) }
  where
    go : (c : ℕ) → ((c upto n) ≡ true) ⊎ ((c upto n) ≡ false) → (1 upto c and c upto n and takes_part 128 after c) ≡ false
    go c (inl e) = and_no_right _ (none→ (takes_part 128 after) none c (let l : c ≤ n = upto→ e in omega arith))
    go c (inr e) = and_no_left _ (and_no_right _ e)
