-- Who may come next, and for whom the others wait: one settled, all settled, one placed.
use mathlib.Core.Path.{◌≡◌, refl, sym, ap, ◌∙◌}
use mathlib.Core.Bool.{Bool, true, false}
use mathlib.Core.Logic.{◌⊎◌, inl, inr, ⊎_elim}
use mathlib.Core.List.{List}
use Prim.Native.Nat.{ℕ, ◌≤◌}
use native.Mathlib.Omega.{arith}
use lib.ListN.{length, length-replicate}
use Rattle.words.specs.Tests.{◌is◌, ◌upto◌, ◌and◌, ◌or◌, some, lowest}
use Rattle.graph.specs.Matrix.{row_words, takes_part, joined, in_row, Joins}
use Rattle.graph.specs.Inner.Peel.{may_begin, without, apart, unmarked}
use Rattle.graph.specs.Inner.Waiting.{nobody, Settled}
use Rattle.words.proofs.Truth.{decide, not_both, to_false, same_test, and→, →and, or→, →or_left, →or_right, is→, →is, isnt→, →upto, none→, →none, lowest_none}
use Rattle.words.proofs.From.{lowest_same}
use Rattle.graph.proofs.Peel.{Free, free→, →free, without→, →without, →apart, apart→}
use Rattle.graph.proofs.Marks.{Part, part→, size_unmarked, joined→, joined_apart, ends}
use Rattle.graph.proofs.TwoWords.{no_member}
use Rattle.graph.proofs.SetWalks.{dropped_out}

module _ {m left wait ready todo : List ℕ} (d : Settled m left wait ready todo) (u : ℕ) (its_turn : takes_part 128 todo u ≡ true) where
  still : (t : ℕ) → takes_part 128 (unmarked u todo) t ≡ true → takes_part 128 todo t ≡ true
  still t h = (without→ (takes_part 128 todo) (sym (dropped_out todo u d.two its_turn t) ∙ h)).0

  -- one that is not to do any more was not before, or it is u
  done : (t : ℕ) → takes_part 128 (unmarked u todo) t ≡ false → (t ≡ u) ⊎ (takes_part 128 todo t ≡ false)
  done t h =
      ⊎_elim (λ (e : (t is u) ≡ true). inl (is→ e))
      (λ (e : (t is u) ≡ false). inr (to_false _ (λ k. not_both (dropped_out todo u d.two its_turn t ∙ →without (takes_part 128 todo) k (isnt→ e)) h))) (decide (t is u))

  -- no edge leads to u: it is ready
  pub settled_ready : (ready' : List ℕ) → some 129 (λ a. joined 128 m left a u) ≡ false → ((t : ℕ) → takes_part 128 ready' t ≡ (t is u and 1 upto u and u upto 128 or takes_part 128 ready t))
      → Settled m left wait ready' (unmarked u todo)
  settled_ready ready' none e =
      record {
        size = d.size;
        two = size_unmarked u todo ∙ d.two;
        those = λ t h. d.those t (still t h);
        may = λ t h. ⊎_elim (λ (q : (t is u and 1 upto u and u upto 128) ≡ true). let z : t ≡ u = is→ (and→ (and→ q).0).0 in rw z begins) (d.may t) (or→ (sym (e t) ∙ h));
        waits = λ t h k. ⊎_elim (λ (z : t ≡ u). inl (e t ∙ →or_left _ (→and (→and (→is z) (→upto vertex.low)) (→upto vertex.high)))) (λ o. ⊎_elim (λ r. inl (e t ∙ →or_right _ r)) inr (d.waits t h o)) (done t k);
      }
    where
      vertex : Part 128 left u
      vertex = part→ 128 left u (d.those u its_turn)

      begins : may_begin m left u ≡ true
      begins = →free (record { bound = let z : u ≤ 128 = vertex.high in omega arith; is_node = d.those u its_turn; unblocked = none→ _ none })

  -- an edge leads to u from w: u waits for it
  pub settled_waits : (one wait' : List ℕ) (w : ℕ) → joined 128 m left w u ≡ true → ((t : ℕ) → takes_part 128 one t ≡ (t is u and 1 upto u and u upto 128 or takes_part 128 nobody t))
      → Joins wait one w wait' → Settled m left wait' ready (unmarked u todo)
  settled_waits one wait' w j e g =
      record {
        size = g.size ∙ d.size;
        two = size_unmarked u todo ∙ d.two;
        those = λ t h. d.those t (still t h);
        may = d.may;
        waits = λ t h k. ⊎_elim (λ (z : t ≡ u). inr (w, rw z j, rw z marked)) (λ o. ⊎_elim inl (λ r. inr (r.0, r.1, g.each d.size r.0 t ∙ →or_left _ r.2)) (d.waits t h o)) (done t k);
      }
    where
      vertex : Part 128 left u
      vertex = part→ 128 left u (d.those u its_turn)

      from : Part 128 left w
      from = part→ 128 left w (joined→ 128 m left w u j).from

      marked : in_row wait' w u ≡ true
      marked =
          g.each d.size w u
          ∙ →or_right _ (→and (→and (→and (→is refl) (→upto from.low)) (→upto from.high)) (e u ∙ →or_left _ (→and (→and (→is refl) (→upto vertex.low)) (→upto vertex.high))))

-- all are settled: those are ready that may come next
module _ {m left wait ready todo : List ℕ} (d : Settled m left wait ready todo) (none : some 129 (takes_part 128 todo) ≡ false) where
  nothing : (t : ℕ) → takes_part 128 todo t ≡ false
  nothing t = to_false _ (λ h. let z : t ≤ 128 = (part→ 128 todo t h).high in not_both h (none→ _ none t (omega arith)))

  pub settled_all : Settled m left wait ready nobody
  unfolding nobody
  settled_all =
      record {
        size = d.size;
        two = length-replicate {A = ℕ} 2 0;
        those = λ t h. absurd (not_both h (no_member 2 t));
        may = d.may;
        waits = λ t h _. d.waits t h (nothing t);
      }

  pub ready_is : (t : ℕ) → takes_part 128 ready t ≡ may_begin m left t
  ready_is t =
      same_test (d.may t) (λ h. let f = free→ h in
      ⊎_elim (λ r. r) (λ (w : (w : ℕ) × (joined 128 m left w t ≡ true) × (in_row wait w t ≡ true)). absurd (not_both w.1 (f.unblocked w.0 (ends 128 m left w.0 t w.1).0))) (d.waits t f.is_node (nothing t)))

-- whether an edge leads to u, by those from which one does
module _ (m left : List ℕ) (u : ℕ) (row : List ℕ) (e : (a : ℕ) → takes_part 128 row a ≡ joined 128 m left a u) where
  pub none_before : some 129 (takes_part 128 row) ≡ false → some 129 (λ a. joined 128 m left a u) ≡ false
  none_before h = →none _ (λ a l. sym (e a) ∙ none→ _ h a l)

  pub one_before : (w : ℕ) → takes_part 128 row w ≡ true → joined 128 m left w u ≡ true
  one_before w h = sym (e w) ∙ h

-- nobody is settled yet
pub settled_none : (m left wait : List ℕ) → length left ≡ 2 → length wait ≡ row_words → Settled m left wait nobody left
unfolding nobody
settled_none m left wait two size = record { size = size; two = two; those = λ t h. h; may = λ t h. absurd (not_both h (no_member 2 t)); waits = λ t h k. absurd (not_both h k) }

-- v is placed: those that wait for it are to be settled anew
module _ {m left wait ready : List ℕ} (d : Settled m left wait ready nobody) (two : length left ≡ 2) (ready_two : length ready ≡ 2) (v : ℕ) (next : takes_part 128 ready v ≡ true) (freed : List ℕ) (freed_two : length freed ≡ 2)
    (e : (t : ℕ) → takes_part 128 freed t ≡ (in_row wait v t and takes_part 128 (unmarked v left) t)) where
  free_v : Free 129 (takes_part 128 left) (joined 128 m left) v
  free_v = free→ (d.may v next)

  vertex : Part 128 left v
  vertex = part→ 128 left v free_v.is_node

  out : (t : ℕ) → takes_part 128 (unmarked v left) t ≡ without v (takes_part 128 left) t
  out = dropped_out left v two free_v.is_node

  edges : joined 128 m (unmarked v left) ≡ apart v (joined 128 m left)
  edges = joined_apart 128 m left (omega arith) v vertex.low vertex.high

  pub settled_placed : Settled m (unmarked v left) wait (unmarked v ready) freed
  settled_placed =
      record {
        size = d.size;
        two = freed_two;
        those = λ t h. (and→ (sym (e t) ∙ h)).1;
        may = may;
        waits = λ t h k. let r = without→ (takes_part 128 left) (sym (out t) ∙ h) in ⊎_elim (λ q. inl (dropped_out ready v ready_two next t ∙ →without (takes_part 128 ready) q r.1)) (λ w. let q = keeps t r.1 h k w in inr (w.0, q.0, q.1)) (d.waits t r.0 (unfold nobody in no_member 2 t));
      }
    where
      may : (t : ℕ) → takes_part 128 (unmarked v ready) t ≡ true → may_begin m (unmarked v left) t ≡ true
      may t h =
          let r = without→ (takes_part 128 ready) (sym (dropped_out ready v ready_two next t) ∙ h) in
          let f = free→ (d.may t r.0) in
          →free (record {
            bound = f.bound;
            is_node = out t ∙ →without (takes_part 128 left) f.is_node r.1;
            unblocked = λ a l. to_false _ (λ j. not_both (apart→ (joined 128 m left) (ap (λ (g : ℕ → ℕ → Bool). g a t) (sym edges) ∙ j)).0 (f.unblocked a l));
          })

      keeps : (t : ℕ) → (t ≡ v → ⊥) → takes_part 128 (unmarked v left) t ≡ true → takes_part 128 freed t ≡ false → (w : (w : ℕ) × (joined 128 m left w t ≡ true) × (in_row wait w t ≡ true))
          → (joined 128 m (unmarked v left) w.0 t ≡ true) × (in_row wait w.0 t ≡ true)
      keeps t other h k w =
          let away : w.0 ≡ v → ⊥ = λ (z : w.0 ≡ v). not_both (e t ∙ →and (rw z at w.2) h) k in
          (ap (λ (g : ℕ → ℕ → Bool). g w.0 t) edges ∙ →apart (joined 128 m left) w.1 away other, w.2)

-- the one that is placed next, where all are settled
pub next_lowest : {m left wait ready : List ℕ} → Settled m left wait ready nobody → (v : ℕ) → v ≡ lowest 129 (takes_part 128 ready) → v ≡ lowest 129 (λ t. 1 upto t and may_begin m left t)
unfolding nobody
next_lowest {m} {left} {wait} {ready} d v e =
    e ∙ lowest_same 129 (takes_part 128 ready) (λ t. 1 upto t and may_begin m left t)
    (λ t _. ready_is d (→none _ (λ u _. no_member 2 u)) t ∙ same_test (λ h. →and (→upto (part→ 128 left t (free→ h).is_node).low) h) (λ h. (and→ h).1))

pub none_next : {m left wait ready : List ℕ} → Settled m left wait ready nobody → some 129 (takes_part 128 ready) ≡ false → 129 ≡ lowest 129 (λ t. 1 upto t and may_begin m left t)
none_next {m} {left} {wait} {ready} d none = next_lowest d 129 (sym (lowest_none (takes_part 128 ready) none))

-- nobody is left to come next
pub nobody_left : (m left : List ℕ) → some 129 (takes_part 128 left) ≡ false → 129 ≡ lowest 129 (λ t. 1 upto t and may_begin m left t)
nobody_left m left none = sym (lowest_none _ (→none _ (λ t l. to_false _ (λ h. not_both (free→ (and→ h).1).is_node (none→ _ none t l)))))
