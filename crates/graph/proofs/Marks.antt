-- The graph of rows of marks: its edges join vertices that take part, and to take a mark away takes the vertex away.
use mathlib.Core.Path.{◌≡◌, refl, sym, ap, ap₂, fun_ext, ◌∙◌}
use mathlib.Core.Bool.{Bool, true, false}
use mathlib.Core.Logic.{◌⊎◌, inl, inr}
use mathlib.Core.List.{List, [], ◌∷◌}
use Prim.Native.Nat.{ℕ, suc, ◌+◌, ◌-◌, ◌*◌, ◌≤◌, ◌<◌}
use native.Mathlib.Omega.{arith}
use native.Mathlib.Numerals.{add-one}
use lib.ListN.{length, get_or, drop, drop_of_length-le, length-set, replicate}
use lib.Seq.{drop-cons}
use Rattle.words.specs.Tests.{◌is◌, ◌and◌, fails, some}
use Rattle.bits.specs.Run.{bit, without_bit}
use Rattle.bits.proofs.Runs.{bit_less}
use Rattle.graph.specs.Matrix.{takes_part, joined, in_row, matrix_order}
use Rattle.graph.specs.Order.{is_order}
use Rattle.graph.specs.Inner.Peel.{free, without, apart, unmarked, may_begin}
use Rattle.words.proofs.Truth.{decide, not_both, to_false, some_same, and_true, →below, same_test, and→, →and, and_no_left, →fails, fails→, isnt→, →isnt, upto→, →upto}
use Rattle.graph.proofs.TwoWords.{no_member}
use Rattle.graph.proofs.Peel.{without→, →without, apart→, →apart, peel, peel_none, free→}

pub record Part (n : ℕ) (part : List ℕ) (v : ℕ) : Type 0 where
  pub low : 1 ≤ v
  pub high : v ≤ n
  pub mark : bit part (v - 1) ≡ true

pub part→ : (n : ℕ) (part : List ℕ) (v : ℕ) → takes_part n part v ≡ true → Part n part v
unfolding takes_part
part→ n part v h = let r = and→ (and→ h).0 in record { low = upto→ r.0; high = upto→ r.1; mark = (and→ h).1 }

pub →part : (n : ℕ) (part : List ℕ) (v : ℕ) → Part n part v → takes_part n part v ≡ true
unfolding takes_part
→part n part v p = →and (→and (→upto p.low) (→upto p.high)) p.mark

pub size_unmarked : (v : ℕ) (part : List ℕ) → length (unmarked v part) ≡ length part
unfolding unmarked without_bit
size_unmarked v part = length-set part _ _

pub zero_out : (n : ℕ) (part : List ℕ) → takes_part n part 0 ≡ false
zero_out n part = to_false _ (λ h. let z : 1 ≤ 0 = (part→ n part 0 h).low in omega arith)

pub record Joined (n : ℕ) (m part : List ℕ) (a b : ℕ) : Type 0 where
  pub differ : a ≡ b → ⊥
  pub from : takes_part n part a ≡ true
  pub to : takes_part n part b ≡ true
  pub mark : bit m ((b - 1) * n + (a - 1)) ≡ true

pub joined→ : (n : ℕ) (m part : List ℕ) (a b : ℕ) → joined n m part a b ≡ true → Joined n m part a b
unfolding joined
joined→ n m part a b h =
    let r = and→ (and→ h).0 in
    let q = and→ r.0 in
    record { differ = isnt→ (fails→ q.0); from = q.1; to = r.1; mark = (and→ h).1 }

pub →joined : (n : ℕ) (m part : List ℕ) (a b : ℕ) → Joined n m part a b → joined n m part a b ≡ true
unfolding joined
→joined n m part a b j = →and (→and (→and (→fails (→isnt j.differ)) j.from) j.to) j.mark

module _ (n : ℕ) (m part : List ℕ) where
  pub ends : (a b : ℕ) → joined n m part a b ≡ true → (a < suc n) × (takes_part n part a ≡ true)
  ends a b h = let j = joined→ n m part a b h in let z : a ≤ n = (part→ n part a j.from).high in (omega arith, j.from)

  pub ends_from : (a b : ℕ) → joined n m part a b ≡ true → (1 ≤ a) × (a ≤ n)
  ends_from a b h = let p = part→ n part a (joined→ n m part a b h).from in (p.low, p.high)

  pub ends_to : (a b : ℕ) → joined n m part a b ≡ true → (1 ≤ b) × (b ≤ n)
  ends_to a b h = let p = part→ n part b (joined→ n m part a b h).to in (p.low, p.high)

  pub none_from : (a b : ℕ) → bit part (a - 1) ≡ false → joined n m part a b ≡ false
  none_from a b out = to_false _ (λ h. not_both (part→ n part a (joined→ n m part a b h).from).mark out)

  pub no_loop : (a : ℕ) → joined n m part a a ≡ true → ⊥
  no_loop a h = (joined→ n m part a a h).differ refl

  module _ (long : n ≤ 64 * length part) (v : ℕ) (low : 1 ≤ v) (high : v ≤ n) where
    unmarked_part : (t : ℕ) → takes_part n (unmarked v part) t ≡ without v (takes_part n part) t
    unfolding unmarked
    unmarked_part t =
        same_test (λ h. let p = part→ n _ t h in
        let r = and→ (sym (other t) ∙ p.mark) in
        →without (takes_part n part) (→part n part t (record { low = p.low; high = p.high; mark = r.0 })) (λ (e : t ≡ v). isnt→ (fails→ r.1) (ap (λ (k : ℕ). k - 1) e)))
        (λ h. let r = without→ (takes_part n part) h in
        let p = part→ n part t r.0 in
        let l : 1 ≤ t = p.low in
        let d : t ≡ v → ⊥ = r.1 in
        →part n _ t (record { low = p.low; high = p.high; mark = other t ∙ →and p.mark (→fails (→isnt (λ (e : t - 1 ≡ v - 1). d (omega arith)))) }))
      where
        other : (t : ℕ) → bit (without_bit part (v - 1)) (t - 1) ≡ (bit part (t - 1) and fails (t - 1 is v - 1))
        other t = bit_less part (v - 1) (omega arith) (t - 1)

    unmarked_joined : (a b : ℕ) → joined n m (unmarked v part) a b ≡ apart v (joined n m part) a b
    unmarked_joined a b =
        same_test (λ h. let j = joined→ n m _ a b h in
        let p = without→ (takes_part n part) (sym (unmarked_part a) ∙ j.from) in
        let q = without→ (takes_part n part) (sym (unmarked_part b) ∙ j.to) in
        →apart (joined n m part) (→joined n m part a b (record { differ = j.differ; from = p.0; to = q.0; mark = j.mark })) p.1 q.1)
        (λ h. let r = apart→ (joined n m part) h in
        let j = joined→ n m part a b r.0 in
        →joined n m _ a b (record { differ = j.differ; from = unmarked_part a ∙ →without (takes_part n part) j.from r.1; to = unmarked_part b ∙ →without (takes_part n part) j.to r.2; mark = j.mark }))

    pub parts_without : takes_part n (unmarked v part) ≡ without v (takes_part n part)
    parts_without = fun_ext unmarked_part

    pub joined_apart : joined n m (unmarked v part) ≡ apart v (joined n m part)
    joined_apart = fun_ext (λ a. fun_ext (unmarked_joined a))

    pub order_without : matrix_order n m (unmarked v part) ≡ is_order (suc n) (without v (takes_part n part)) (apart v (joined n m part))
    unfolding matrix_order
    order_without = ap₂ (is_order (suc n)) parts_without joined_apart

  -- AN ORDER OF THE VERTICES THAT TAKE PART begins with one that may come first, and goes on without its mark
  pub matrix_peel : n ≤ 64 * length part → (a : ℕ) (w : List ℕ)
      → matrix_order n m part (a ∷ w) ≡ (free (suc n) (takes_part n part) (joined n m part) a and matrix_order n m (unmarked a part) w)
  unfolding matrix_order
  matrix_peel long a w = peel (suc n) (takes_part n part) (joined n m part) ends a w ∙ go (decide begin)
    where
      begin : Bool
      begin = free (suc n) (takes_part n part) (joined n m part) a

      go : (begin ≡ true) ⊎ (begin ≡ false) → (begin and is_order (suc n) (without a (takes_part n part)) (apart a (joined n m part)) w) ≡ (begin and matrix_order n m (unmarked a part) w)
      go (inl h) = let p = part→ n part a (free→ h).is_node in ap (λ (f : List ℕ → Bool). begin and f w) (sym (order_without long a p.low p.high))
      go (inr h) = and_no_left _ h ∙ sym (and_no_left _ h)

  pub matrix_none : matrix_order n m part [] ≡ fails (some (suc n) (takes_part n part))
  unfolding matrix_order
  matrix_none = peel_none (suc n) (takes_part n part) (joined n m part) ends

  -- .. where the order is read from place i on
  pub matrix_turn : n ≤ 64 * length part → (given : List ℕ) (i : ℕ) → i < length given
      → matrix_order n m part (drop i given)
      ≡ (free (suc n) (takes_part n part) (joined n m part) (get_or given i 0) and matrix_order n m (unmarked (get_or given i 0) part) (drop (i + 1) given))
  matrix_turn long given i h = rw (add-one i, drop-cons given i 0 h) (matrix_peel long (get_or given i 0) (drop (suc i) given))

  pub matrix_end : (given : List ℕ) (i : ℕ) → length given ≤ i → matrix_order n m part (drop i given) ≡ fails (some (suc n) (takes_part n part))
  matrix_end given i h = rw (drop_of_length-le given h) matrix_none

-- an edge leads from a to b exactly where a is in the row of b
pub in_row_of : (m part : List ℕ) (a b : ℕ) → joined 128 m part a b ≡ true → in_row m b a ≡ true
unfolding in_row
in_row_of m part a b h =
    let j = joined→ 128 m part a b h in
    let p = part→ 128 part a j.from in
    let q = part→ 128 part b j.to in
    →and (→and (→and (→and (→upto q.low) (→upto q.high)) (→upto p.low)) (→upto p.high)) j.mark

pub joined_by_row : (m part : List ℕ) (a b : ℕ) → (a ≡ b → ⊥) → takes_part 128 part a ≡ true → takes_part 128 part b ≡ true → in_row m b a ≡ true → joined 128 m part a b ≡ true
unfolding in_row
joined_by_row m part a b n p q h = →joined 128 m part a b (record { differ = n; from = p; to = q; mark = (and→ h).1 })

-- the vertices from which an edge leads to b, which is not left, or is
pub before_none : (m left : List ℕ) (b : ℕ) → takes_part 128 left b ≡ false → (a : ℕ) → takes_part 128 (replicate 2 0) a ≡ joined 128 m left a b
before_none m left b out a = no_member 2 a ∙ sym (to_false _ (λ h. not_both (joined→ 128 m left a b h).to out))

pub before_some : (m left : List ℕ) (b : ℕ) → length left ≡ 2 → takes_part 128 left b ≡ true → (row others r : List ℕ)
    → ((a : ℕ) → takes_part 128 row a ≡ in_row m b a) → others ≡ unmarked b left → ((a : ℕ) → takes_part 128 r a ≡ (takes_part 128 row a and takes_part 128 others a))
    → (a : ℕ) → takes_part 128 r a ≡ joined 128 m left a b
unfolding in_row
before_some m left b size stands row others r p q e a = e a ∙ same_test there back
  where
    vertex : Part 128 left b
    vertex = part→ 128 left b stands

    without_b : takes_part 128 others a ≡ without b (takes_part 128 left) a
    without_b = ap (λ (l : List ℕ). takes_part 128 l a) q ∙ ap (λ (f : ℕ → Bool). f a) (parts_without 128 m left (omega arith) b vertex.low vertex.high)

    there : (takes_part 128 row a and takes_part 128 others a) ≡ true → joined 128 m left a b ≡ true
    there h =
        let k = and→ h in
        let w = without→ (takes_part 128 left) (sym without_b ∙ k.1) in
        →joined 128 m left a b (record { differ = w.1; from = w.0; to = stands; mark = (and→ (sym (p a) ∙ k.0)).1 })

    back : joined 128 m left a b ≡ true → (takes_part 128 row a and takes_part 128 others a) ≡ true
    back h =
        let j = joined→ 128 m left a b h in
        let v = part→ 128 left a j.from in
        →and (p a ∙ →and (→and (→and (→and (→upto vertex.low) (→upto vertex.high)) (→upto v.low)) (→upto v.high)) j.mark) (without_b ∙ →without (takes_part 128 left) j.from j.differ)

-- an order may begin with a vertex that is left and to which no edge leads
pub begins_by : (m left : List ℕ) (v : ℕ) → takes_part 128 left v ≡ true → (s : List ℕ) → ((a : ℕ) → takes_part 128 s a ≡ joined 128 m left a v) → fails (some 129 (takes_part 128 s)) ≡ may_begin m left v
unfolding free
begins_by m left v stands s e =
    let z : v ≤ 128 = (part→ 128 left v stands).high in
    ap (λ (t : Bool). fails t) (some_same 129 (takes_part 128 s) (λ a. joined 128 m left a v) (λ a _. e a)) ∙ sym (and_true (→and (→below (omega arith)) stands))
