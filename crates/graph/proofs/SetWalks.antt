-- Walks over a set of vertices, the lowest first: what is gathered of their edges, and which of them has one.
use mathlib.Core.Path.{◌≡◌, refl, sym, ap, subst, ◌∙◌}
use mathlib.Core.Bool.{Bool, true, false}
use mathlib.Core.Logic.{⊎_elim}
use mathlib.Core.List.{List, [], ◌∷◌}
use Prim.Native.Nat.{ℕ, ◌+◌, ◌≤◌, ◌<◌}
use native.Mathlib.Omega.{arith}
use Rattle.std.specs.Prelude.{⊤, Option, Some, None, IsSome, MatchOption}
use Rattle.std.specs.Iterator.{Yields, YieldsThen}
use Rattle.std.specs.List.{FoldsTo}
use lib.ListN.{length, replicate}
use Rattle.words.specs.Tests.{◌is◌, ◌below◌, ◌upto◌, ◌and◌, ◌or◌, some, count, lowest}
use Rattle.words.proofs.Truth.{decide, not_both, to_false, same_test, and→, →and, and_no_left, or→, →or_left, →or_right, or_false, or_no, is→, isnt→, below→, →below, upto→, →upto, some→, →some, none→, →none, some_next, lowest_is, lowest_at, lowest_none, lowest_some, lowest_passes, below_lowest}
use Rattle.words.proofs.From.{lowest_same}
use Rattle.graph.specs.Matrix.{takes_part}
use Rattle.graph.specs.Inner.Peel.{without, unmarked}
use Rattle.graph.specs.Inner.Finding.{IsLowest, LowestOf, Turn, GivesLowest}
use Rattle.graph.specs.declared.sets.EachVertex.{EachVertex}
use Rattle.graph.proofs.Peel.{without→, →without}
use Rattle.graph.proofs.Marks.{part→, size_unmarked, parts_without}
use Rattle.graph.proofs.Sized.{part_less}
use Rattle.graph.proofs.TwoWords.{no_member}

-- one that is taken away is there no more, and the others are as before
pub dropped_out : (rest : List ℕ) (u : ℕ) → length rest ≡ 2 → takes_part 128 rest u ≡ true → (t : ℕ) → takes_part 128 (unmarked u rest) t ≡ without u (takes_part 128 rest) t
dropped_out rest u two h t = let p = part→ 128 rest u h in ap (λ (f : ℕ → Bool). f t) (parts_without 128 rest rest (omega arith) u p.low p.high)

-- fewer are left
pub fewer : (rest : List ℕ) (u : ℕ) → length rest ≡ 2 → takes_part 128 rest u ≡ true → count 129 (takes_part 128 (unmarked u rest)) < count 129 (takes_part 128 rest)
fewer rest u two h = omega (arith, part_less 128 rest rest (omega arith) u h)

-- the lowest that passes
pub lowest_of : (p : ℕ → Bool) (v : ℕ) → some 129 p ≡ true → v ≡ lowest 129 p → IsLowest p v
lowest_of p v h e = let r = lowest_is p h in record { high = omega (arith, r.0); one = rw e r.1; first = e }

-- one is found where one passes
pub found_some : (p : ℕ → Bool) (r : Option ℕ) → LowestOf p r → some 129 p ≡ true → IsSome r
found_some p None h s = absurd (not_both s h)
found_some p (Some v) h s = refl

-- the one whose turn it is
pub turn_of : {left : List ℕ} {v : ℕ} {others : List ℕ} → IsLowest (takes_part 128 left) v → others ≡ unmarked v left → Turn left v others
turn_of {left} {v} f e = let p = part→ 128 left v f.one in record { low = p.low; high = p.high; one = f.one; first = f.first; after = e }

module _ {left : List ℕ} {v : ℕ} {others : List ℕ} (two : length left ≡ 2) (t : Turn left v others) where
  -- the walk ends: fewer are left
  pub turn_fewer : count 129 (takes_part 128 others) < count 129 (takes_part 128 left)
  turn_fewer = rw t.after (fewer left v two t.one)

-- what the edges to the front come from is gathered, but for those to the rest of it
pub record Gathered (edge : ℕ → ℕ → Bool) (front rest all : List ℕ) : Type 0 where
  pub two : length rest ≡ 2
  pub so_far : (t : ℕ) → (takes_part 128 all t or some 129 (λ u. takes_part 128 rest u and edge t u)) ≡ some 129 (λ u. takes_part 128 front u and edge t u)

pub gathered_none : (edge : ℕ → ℕ → Bool) (front : List ℕ) → length front ≡ 2 → Gathered edge front front (replicate 2 0)
gathered_none edge front two = record { two = two; so_far = λ t. or_false (no_member 2 t) }

module _ {edge : ℕ → ℕ → Bool} {front rest all : List ℕ} (g : Gathered edge front rest all) where
  pub gathered_more : (u : ℕ) → takes_part 128 rest u ≡ true → (row more : List ℕ) → ((t : ℕ) → takes_part 128 row t ≡ edge t u) → ((t : ℕ) → takes_part 128 more t ≡ (takes_part 128 all t or takes_part 128 row t))
      → Gathered edge front (unmarked u rest) more
  gathered_more u its_turn row more e m = record { two = size_unmarked u rest ∙ g.two; so_far = λ t. same_test (there t) (back t) ∙ g.so_far t }
    where
      out : (t : ℕ) → takes_part 128 (unmarked u rest) t ≡ without u (takes_part 128 rest) t
      out = dropped_out rest u g.two its_turn

      bound : u < 129
      bound = let z : u ≤ 128 = (part→ 128 rest u its_turn).high in omega arith

      there : (t : ℕ) → (takes_part 128 more t or some 129 (λ v. takes_part 128 (unmarked u rest) v and edge t v)) ≡ true → (takes_part 128 all t or some 129 (λ v. takes_part 128 rest v and edge t v)) ≡ true
      there t h =
          ⊎_elim (λ (q : takes_part 128 more t ≡ true). ⊎_elim (λ (k : takes_part 128 all t ≡ true). →or_left _ k) (λ (k : takes_part 128 row t ≡ true). →or_right _ (→some _ u bound (→and its_turn (sym (e t) ∙ k)))) (or→ (sym (m t) ∙ q)))
          (λ (q : some 129 (λ v. takes_part 128 (unmarked u rest) v and edge t v) ≡ true). let r = some→ q in let k = and→ r.2 in →or_right _ (→some _ r.0 r.1 (→and (without→ (takes_part 128 rest) (sym (out r.0) ∙ k.0)).0 k.1))) (or→ h)

      back : (t : ℕ) → (takes_part 128 all t or some 129 (λ v. takes_part 128 rest v and edge t v)) ≡ true → (takes_part 128 more t or some 129 (λ v. takes_part 128 (unmarked u rest) v and edge t v)) ≡ true
      back t h =
          ⊎_elim (λ (q : takes_part 128 all t ≡ true). →or_left _ (m t ∙ →or_left _ q))
          (λ (q : some 129 (λ v. takes_part 128 rest v and edge t v) ≡ true). let r = some→ q in let k = and→ r.2 in
          ⊎_elim (λ (z : (r.0 is u) ≡ true). let w : r.0 ≡ u = is→ z in →or_left _ (m t ∙ →or_right _ (e t ∙ (rw w at k.1))))
          (λ (z : (r.0 is u) ≡ false). →or_right _ (→some _ r.0 r.1 (→and (out r.0 ∙ →without (takes_part 128 rest) k.0 (isnt→ z)) k.1))) (decide (r.0 is u))) (or→ h)

  pub gathered_turn : {u : ℕ} {others : List ℕ} → Turn rest u others → (row more : List ℕ) → ((t : ℕ) → takes_part 128 row t ≡ edge t u) → ((t : ℕ) → takes_part 128 more t ≡ (takes_part 128 all t or takes_part 128 row t))
      → Gathered edge front others more
  gathered_turn {u} turn row more e m = rw turn.after (gathered_more u turn.one row more e m)

  pub gathered_all : some 129 (takes_part 128 rest) ≡ false → (t : ℕ) → takes_part 128 all t ≡ some 129 (λ u. takes_part 128 front u and edge t u)
  gathered_all none t = sym (or_no (takes_part 128 all t) (→none _ (λ u h. and_no_left _ (none→ _ none u h)))) ∙ g.so_far t

-- the first of a layer that passes is among the rest of it
pub record Sought (passes : ℕ → Bool) (layer rest : List ℕ) : Type 0 where
  pub two : length rest ≡ 2
  pub same : lowest 129 (λ u. takes_part 128 rest u and passes u) ≡ lowest 129 (λ u. takes_part 128 layer u and passes u)

module _ {passes : ℕ → Bool} {layer rest : List ℕ} (s : Sought passes layer rest) where
  pub sought_on : (u : ℕ) → takes_part 128 rest u ≡ true → passes u ≡ false → Sought passes layer (unmarked u rest)
  sought_on u its_turn q =
      record {
        two = size_unmarked u rest ∙ s.two;
        same = lowest_same 129 (λ v. takes_part 128 (unmarked u rest) v and passes v) (λ v. takes_part 128 rest v and passes v) (λ v _. each v) ∙ s.same;
      }
    where
      each : (v : ℕ) → (takes_part 128 (unmarked u rest) v and passes v) ≡ (takes_part 128 rest v and passes v)
      each v =
          let out = dropped_out rest u s.two its_turn v in
          same_test (λ h. let r = and→ h in →and (without→ (takes_part 128 rest) (sym out ∙ r.0)).0 r.1)
          (λ h. let r = and→ h in →and (out ∙ →without (takes_part 128 rest) r.0 (λ (e : v ≡ u). not_both (rw e at r.1) q)) r.1)

  module _ {u : ℕ} {others : List ℕ} (turn : Turn rest u others) where
    pub sought_here : passes u ≡ true → IsLowest (λ v. takes_part 128 layer v and passes v) u
    sought_here q =
        let e = sym (lowest_at (λ v. takes_part 128 rest v and passes v) u (omega (arith, turn.high)) (→and turn.one q) (λ (j : ℕ) (l : j < u). and_no_left _ (below_lowest 129 (takes_part 128 rest) j (rw turn.first at l)))) ∙ s.same in
        lowest_of _ u (lowest_passes {n = 129} _ (omega (arith, e, turn.high))) e

    pub sought_turn : passes u ≡ false → Sought passes layer others
    sought_turn q = rw turn.after (sought_on u turn.one q)

  pub sought_all : some 129 (takes_part 128 rest) ≡ false → some 129 (λ u. takes_part 128 layer u and passes u) ≡ false
  sought_all none = lowest_some _ (omega (arith, lowest_none (λ u. takes_part 128 rest u and passes u) (→none _ (λ u h. and_no_left _ (none→ _ none u h))), s.same))

-- `find` over the vertices of a set, by what the calls with false and with true tell of a vertex
module _ {F : Type 0} (passes : ℕ → Bool) (No Yes : F → ℕ → F → Type 0) (f : F) (no : (x : ℕ) (q : F) → No f x q → (q ≡ f) × (passes x ≡ false)) (yes : (x : ℕ) (q : F) → Yes f x q → passes x ≡ true) where
  abbrev pub steps : EachVertex → Option ℕ → EachVertex → Type 0
  steps s r t = GivesLowest s.0 r t.0

  finish : (layer : List ℕ) (t u : EachVertex) (r : Option ℕ) → Sought passes layer t.0 → steps t r u → MatchOption r ⊤ (λ x. (h : F) × Yes f x h) → LowestOf (λ v. takes_part 128 layer v and passes v) r
  finish layer t u None so s m = sought_all so s
  finish layer t u (Some x) so s m = sought_here so s (yes x m.0 m.1)

  passed : (layer : List ℕ) (u t : EachVertex) (r : Option ℕ) (xs : List ℕ) (s : EachVertex) (j : F) → Sought passes layer s.0 → Yields steps s xs t → FoldsTo No f xs j → steps t r u → MatchOption r ⊤ (λ x. (h : F) × Yes j x h)
      → LowestOf (λ v. takes_part 128 layer v and passes v) r
  passed layer u t r [] s j so y g e m = finish layer t u r (subst (λ (z : EachVertex). Sought passes layer z.0) y so) e (subst (λ (k : F). MatchOption r ⊤ (λ x. (h : F) × Yes k x h)) (sym g) m)
  passed layer u t r (x ∷ xs) s j so y g e m = let n = no x g.0 g.1 in passed layer u t r xs y.0 j (sought_turn so y.1 n.1) y.2 (subst (λ (k : F). FoldsTo No k xs j) n.0 g.2) e m

  pub lowest_found : (s u : EachVertex) (r : Option ℕ) → length s.0 ≡ 2 → (xs : List ℕ) × (j : F) × YieldsThen steps s xs r u × FoldsTo No f xs j × MatchOption r ⊤ (λ x. (h : F) × Yes j x h) → LowestOf (λ v. takes_part 128 s.0 v and passes v) r
  lowest_found s u r two d = passed s.0 u d.2.0 r d.0 s d.1 (record { two = two; same = refl }) d.2.1 d.3 d.2.2 d.4

-- of the vertices below u, those from which an edge leads to a higher one that is also below u
pub record Rises (edge : ℕ → ℕ → Bool) (u : ℕ) (lower all : List ℕ) : Type 0 where
  pub below_u : (t : ℕ) → takes_part 128 lower t ≡ (1 upto t and t below u)
  pub risen : (t : ℕ) → takes_part 128 all t ≡ some u (λ v. t below v and edge t v)

pub rises_none : (edge : ℕ → ℕ → Bool) → Rises edge 1 (replicate 2 0) (replicate 2 0)
rises_none edge =
    record {
      below_u = λ t. no_member 2 t ∙ sym (to_false _ (λ h. let r = and→ h in let a : 1 ≤ t = upto→ r.0 in let b : t < 1 = below→ r.1 in omega arith));
      risen = λ t. no_member 2 t ∙ sym (→none _ (λ (v : ℕ) (l : v < 1). to_false _ (λ h. let b : t < v = below→ (and→ h).0 in omega arith)));
    }

pub rises_more : {edge : ℕ → ℕ → Bool} {u : ℕ} {lower all : List ℕ} → ((a b : ℕ) → edge a b ≡ true → (1 ≤ a) × (a ≤ 128)) → Rises edge u lower all → 1 ≤ u → u ≤ 128 → (row new more wider : List ℕ)
    → ((t : ℕ) → takes_part 128 row t ≡ edge t u) → ((t : ℕ) → takes_part 128 new t ≡ (takes_part 128 row t and takes_part 128 lower t)) → ((t : ℕ) → takes_part 128 more t ≡ (takes_part 128 all t or takes_part 128 new t))
    → ((t : ℕ) → takes_part 128 wider t ≡ (t is u and 1 upto u and u upto 128 or takes_part 128 lower t)) → Rises edge (u + 1) wider more
rises_more {edge} {u} {lower} {all} from r low high row new more wider e n m w =
    record { below_u = λ t. w t ∙ same_test (in_front t) (behind t); risen = λ t. m t ∙ ap (λ (x : Bool). x or takes_part 128 new t) (r.risen t) ∙ ap (λ (x : Bool). some u (λ v. t below v and edge t v) or x) (here t) ∙ sym (some_next u (λ v. t below v and edge t v)) }
  where
    here : (t : ℕ) → takes_part 128 new t ≡ (t below u and edge t u)
    here t =
        n t ∙ same_test (λ h. let k = and→ h in →and (and→ (sym (r.below_u t) ∙ k.1)).1 (sym (e t) ∙ k.0))
        (λ h. let k = and→ h in →and (e t ∙ k.1) (r.below_u t ∙ →and (→upto (from t u k.1).0) k.0))

    in_front : (t : ℕ) → (t is u and 1 upto u and u upto 128 or takes_part 128 lower t) ≡ true → (1 upto t and t below u + 1) ≡ true
    in_front t h =
        ⊎_elim (λ (k : (t is u and 1 upto u and u upto 128) ≡ true). let z : t ≡ u = is→ (and→ (and→ k).0).0 in →and (→upto (omega arith)) (→below (omega arith)))
        (λ (k : takes_part 128 lower t ≡ true). let q = and→ (sym (r.below_u t) ∙ k) in let b : t < u = below→ q.1 in →and q.0 (→below (omega arith))) (or→ h)

    behind : (t : ℕ) → (1 upto t and t below u + 1) ≡ true → (t is u and 1 upto u and u upto 128 or takes_part 128 lower t) ≡ true
    behind t h =
        let q = and→ h in
        let b : t < u + 1 = below→ q.1 in
        ⊎_elim (λ (k : (t is u) ≡ true). →or_left _ (→and (→and k (→upto low)) (→upto high)))
        (λ (k : (t is u) ≡ false). let d : t ≡ u → ⊥ = isnt→ k in →or_right _ (r.below_u t ∙ →and q.0 (→below (omega arith)))) (decide (t is u))

pub rises_all : {edge : ℕ → ℕ → Bool} {u : ℕ} {lower all : List ℕ} → Rises edge u lower all → u ≡ 129 → (t : ℕ) → takes_part 128 all t ≡ some 129 (λ v. t below v and edge t v)
rises_all {edge} r e t = r.risen t ∙ ap (λ (k : ℕ). some k (λ v. t below v and edge t v)) e
