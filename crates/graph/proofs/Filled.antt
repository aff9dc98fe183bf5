-- What stands after some turns of placing: what is placed goes before any first order of the rest.
use mathlib.Core.Path.{◌≡◌, refl, sym, ap, ◌∙◌}
use mathlib.Core.Bool.{Bool}
use mathlib.Core.List.{List, [], ◌∷◌, ◌++◌, append-nil, append_assoc}
use Prim.Native.Nat.{ℕ, ◌+◌, ◌≤◌, ◌<◌, ◌*◌}
use native.Mathlib.Omega.{arith}
use lib.ListN.{length, set, length-append}
use Rattle.words.specs.Tests.{◌upto◌, ◌and◌, count, lowest}
use Rattle.words.specs.First.{dictionary, First}
use Rattle.graph.specs.Cycle.{is_cycle}
use Rattle.graph.specs.Matrix.{takes_part, joined, matrix_order}
use Rattle.graph.specs.Inner.Peel.{may_begin, apart, unmarked}
use Rattle.graph.specs.Inner.Laying.{laid, Places}
use Rattle.words.proofs.Truth.{not_both, to_false, →none}
use Rattle.graph.proofs.Peel.{free→}
use Rattle.graph.proofs.Marks.{size_unmarked, part→, ends, no_loop, joined_apart, order_without}
use Rattle.graph.proofs.Greedy.{cycle_apart, first_none, first_next, stuck}
use Rattle.graph.proofs.Begins.{lowest→, none_begins, lowest_less}
use Rattle.graph.proofs.Laid.{laid_none, laid_more}

-- what `lay_down` has put there after some turns, from place i on: n entries stand, and `rest` are the marks that are left
pub record Filled (m left : List ℕ) (i : ℕ) (list : List ℕ) (n : ℕ) (rest list' : List ℕ) : Type 0 where
  pub placed : List ℕ
  pub counted : n ≡ i + length placed
  pub lies : list' ≡ laid i placed list
  pub size : length rest ≡ 2
  pub room : n + count 129 (takes_part 128 rest) ≤ 128
  pub front : (u : List ℕ) → First dictionary (matrix_order 128 m rest) u → First dictionary (matrix_order 128 m left) (placed ++ u)
  pub around : (c : List ℕ) → is_cycle (joined 128 m rest) c ≡ is_cycle (joined 128 m left) c

pub filled_none : (m left : List ℕ) (i : ℕ) (list : List ℕ) → length left ≡ 2 → i + count 129 (takes_part 128 left) ≤ 128 → Filled m left i list i left list
filled_none m left i list size room =
    record { placed = []; counted = omega arith; lies = sym (laid_none i list); size = size; room = room; front = λ u f. f; around = λ c. refl }

module _ {m left : List ℕ} {i : ℕ} {list : List ℕ} {n : ℕ} {rest list' : List ℕ} (f : Filled m left i list n rest list') (v : ℕ) (is_lowest : v ≡ lowest 129 (λ t. 1 upto t and may_begin m rest t)) where
  pub filled_next : v ≤ 128 → (1 ≤ v) × (n < 128)
  filled_next h = ((lowest→ m rest 1 v is_lowest h).from, omega (arith, f.room, lowest_less m rest 1 v is_lowest f.size h))

  pub filled_more : v ≤ 128 → Filled m left i list (n + 1) (unmarked v rest) (set list' n v)
  unfolding matrix_order
  filled_more h =
      let l = lowest→ m rest 1 v is_lowest h in
      let fits : 128 ≤ 64 * length rest = omega (arith, f.size) in
      let edges : joined 128 m (unmarked v rest) ≡ apart v (joined 128 m rest) = joined_apart 128 m rest fits v l.from h in
      record {
        placed = f.placed ++ v ∷ [];
        counted = simp length-append (omega (arith, f.counted));
        lies = rw (f.lies, f.counted) (sym (laid_more i f.placed list v));
        size = size_unmarked v rest ∙ f.size;
        room = omega (arith, f.room, lowest_less m rest 1 v is_lowest f.size h);
        front = λ u g.
            rw append_assoc (f.front (v ∷ u) (first_next 129 _ _ (ends 128 m rest) v u l.begins (λ t b. l.least t b (part→ 128 rest t (free→ b).is_node).low) (rw (order_without 128 m rest fits v l.from h) at g)));
        around = λ c. ap (λ (e : ℕ → ℕ → Bool). is_cycle e c) edges ∙ cycle_apart (joined 128 m rest) v (λ a. to_false _ (λ e. not_both e ((free→ l.begins).unblocked a (ends 128 m rest a v e).0))) c ∙ f.around c;
      }

  pub filled_all : 128 < v → Places m left i list n rest list'
  unfolding matrix_order
  filled_all h =
      record {
        placed = f.placed;
        counted = f.counted;
        lies = f.lies;
        order = λ none. rw append-nil at (f.front [] (first_none 129 _ _ (ends 128 m rest) none));
        cycle = λ left_over.
            stuck 129 _ _ (ends 128 m rest) (no_loop 128 m rest) (→none _ (λ t l. to_false _ (λ b. not_both b (none_begins m rest 1 v is_lowest h t (part→ 128 rest t (free→ b).is_node).low)))) left_over;
        around = f.around;
      }
