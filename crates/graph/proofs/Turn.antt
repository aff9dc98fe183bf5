-- One turn of `follow`: the first order later than a ∷ w, from what is later than w without a's mark, or else from a higher beginning.
use mathlib.Core.Path.{◌≡◌, sym, ap, subst, ◌∙◌}
use mathlib.Core.Bool.{Bool, true, false}
use mathlib.Core.List.{List, [], ◌∷◌}
use Rattle.std.specs.Prelude.{Option}
use Prim.Native.Nat.{ℕ, ◌+◌, ◌≤◌, ◌<◌}
use native.Mathlib.Omega.{arith}
use native.Mathlib.Numerals.{add-one}
use lib.ListN.{length, get_or, drop, set, length-drop, drop_of_length-le}
use lib.Seq.{drop-cons}
use Rattle.words.specs.Tests.{◌upto◌, ◌and◌, some, count}
use Rattle.words.specs.First.{Never, later}
use Rattle.graph.specs.Matrix.{takes_part, joined, matrix_order}
use Rattle.graph.specs.Cycle.{is_cycle}
use Rattle.graph.specs.Inner.Peel.{may_begin, unmarked}
use Rattle.graph.specs.Inner.Finding.{IsLowest}
use Rattle.graph.specs.Inner.Laying.{Places, Later, Followed}
use Rattle.words.proofs.Truth.{not_both, to_false, and→, →and, →upto, fails→, none→}
use Rattle.graph.proofs.Peel.{free→, apart→}
use Rattle.graph.proofs.Marks.{Part, part→, joined_apart, matrix_peel, matrix_none}
use Rattle.graph.proofs.Follow.{later_same, later_other, later_none, later_end}
use Rattle.graph.proofs.Greedy.{cycle_more}
use Rattle.graph.proofs.Sized.{order_size, order_acyclic}
use Rattle.graph.proofs.Begins.{Lowest, lowest→}
use Rattle.graph.proofs.Laid.{laid_last, laid_front}

module _ (m left : List ℕ) (size : length left ≡ 2) where
  peeled : (a : ℕ) (w : List ℕ) → matrix_order 128 m left (a ∷ w) ≡ (may_begin m left a and matrix_order 128 m (unmarked a left) w)
  peeled = matrix_peel 128 m left (omega arith)

  -- nothing is left: nothing is later
  pub turn_end : matrix_order 128 m left [] ≡ true → Never (later (matrix_order 128 m left) [])
  turn_end h =
      later_end (may_begin m left) (matrix_order 128 m left) (λ a. matrix_order 128 m (unmarked a left)) peeled
      (λ t. to_false _ (λ b. not_both (free→ b).is_node (none→ _ (fails→ (sym (matrix_none 128 m left) ∙ h)) t (free→ b).bound)))

  module _ (a : ℕ) (w : List ℕ) (ordered : matrix_order 128 m left (a ∷ w) ≡ true) where
    pub turn_begin : may_begin m left a ≡ true
    turn_begin = (and→ (sym (peeled a w) ∙ ordered)).0

    pub turn_rest : matrix_order 128 m (unmarked a left) w ≡ true
    turn_rest = (and→ (sym (peeled a w) ∙ ordered)).1

    -- a later order begins with a too
    pub turn_same : (i n : ℕ) (list list' : List ℕ) → Later m (unmarked a left) w (i + 1) list n list' → Later m left (a ∷ w) i list n (set list' i a)
    turn_same i n list list' f =
        record {
          members = a ∷ f.members;
          first = later_same (may_begin m left) (matrix_order 128 m left) (λ b. matrix_order 128 m (unmarked b left)) peeled a w f.members turn_begin f.first;
          counted = omega (arith, f.counted);
          lies = ap (λ (z : List ℕ). set z i a) f.lies ∙ laid_last i f.members list a;
        }

    -- no later order begins with a: the lowest beginning that is higher is b, or there is none
    module _ (never : Never (later (matrix_order 128 m (unmarked a left)) w)) where
      pub turn_none : some 129 (λ t. (a + 1) upto t and may_begin m left t) ≡ false → Never (later (matrix_order 128 m left) (a ∷ w))
      turn_none h =
          later_none (may_begin m left) (matrix_order 128 m left) (λ c. matrix_order 128 m (unmarked c left)) peeled a w never
          (λ t q l. not_both (→and (→upto (omega arith)) q) (none→ _ h t (free→ q).bound))

      module _ (b : ℕ) (is_lowest : IsLowest (λ t. (a + 1) upto t and may_begin m left t) b) (i : ℕ) (list : List ℕ) where
        pub turn_other : (n : ℕ) (rest list' : List ℕ) → Places m (unmarked b left) (i + 1) (set list i b) n rest list' → Later m left (a ∷ w) i list n list'
        turn_other n rest list' p =
            record {
              members = b ∷ p.placed;
              first = later_other (may_begin m left) (matrix_order 128 m left) (λ c. matrix_order 128 m (unmarked c left)) peeled a w never b p.placed
                  low.begins (omega (arith, low.from)) (λ t q g. low.least t q (omega arith)) (p.order all);
              counted = omega (arith, p.counted);
              lies = p.lies ∙ laid_front i p.placed list b;
            }
          where
            low : Lowest m left (a + 1) b
            low = lowest→ m left (a + 1) b is_lowest.first is_lowest.high

            -- a graph that has an order has no cycle, and so has no part of it
            acyclic : Never (is_cycle (joined 128 m (unmarked b left)))
            acyclic c =
                let e = joined_apart 128 m left (omega arith) b low.vertex.low is_lowest.high in
                to_false _ (λ k. not_both (cycle_more _ _ (λ x y q. (apart→ (joined 128 m left) (ap (λ (g : ℕ → ℕ → Bool). g x y) (sym e) ∙ q)).0) c k) (order_acyclic 128 m left (a ∷ w) ordered c))

            all : some 129 (takes_part 128 rest) ≡ false
            all = to_false _ (λ q. let c = p.cycle q in not_both (sym (p.around c.0) ∙ c.1) (acyclic c.0))

-- The same where the given list is read from place i on.
module _ (m left : List ℕ) (size : length left ≡ 2) (given : List ℕ) (i : ℕ) (ordered : matrix_order 128 m left (drop i given) ≡ true) where
  pub at_end : length given ≤ i → Never (later (matrix_order 128 m left) (drop i given))
  at_end h = rw (drop_of_length-le given h) (turn_end m left size (rw (drop_of_length-le given h) at ordered))

  module _ (h : i < length given) where
    entry : drop i given ≡ get_or given i 0 ∷ drop (i + 1) given
    entry = rw (add-one i) (drop-cons given i 0 h)

    begun : matrix_order 128 m left (get_or given i 0 ∷ drop (i + 1) given) ≡ true
    begun = ap (matrix_order 128 m left) (sym entry) ∙ ordered

    pub at_vertex : Part 128 left (get_or given i 0)
    at_vertex = part→ 128 left (get_or given i 0) (free→ (turn_begin m left size (get_or given i 0) (drop (i + 1) given) begun)).is_node

    pub at_rest : matrix_order 128 m (unmarked (get_or given i 0) left) (drop (i + 1) given) ≡ true
    at_rest = turn_rest m left size (get_or given i 0) (drop (i + 1) given) begun

    pub at_room : length given ≤ 128 → i + count 129 (takes_part 128 left) ≤ 128
    at_room l = omega (arith, order_size 128 m left (drop i given) (omega arith) ordered, length-drop i given)

    pub at_same : (n : ℕ) (list list' : List ℕ) → Later m (unmarked (get_or given i 0) left) (drop (i + 1) given) (i + 1) list n list' → Later m left (drop i given) i list n (set list' i (get_or given i 0))
    at_same n list list' f = rw entry (turn_same m left size (get_or given i 0) (drop (i + 1) given) begun i n list list' f)

    pub at_higher : Never (later (matrix_order 128 m (unmarked (get_or given i 0) left)) (drop (i + 1) given)) → (list list' list'' : List ℕ) → list' ≡ list → (r : Option ℕ)
        → ((w : List ℕ) → matrix_order 128 m left (get_or given i 0 ∷ w) ≡ true → Never (later (matrix_order 128 m (unmarked (get_or given i 0) left)) w) → Followed m left (get_or given i 0 ∷ w) i list' r list'')
        → Followed m left (drop i given) i list r list''
    at_higher never list list' list'' e r g =
        rw entry (subst (λ (l : List ℕ). Followed m left (get_or given i 0 ∷ drop (i + 1) given) i l r list'') e (g (drop (i + 1) given) begun never))
