-- A walk backward from a set of vertices: what was reached leads to the set, and at the end nothing else does.
use mathlib.Core.Path.{◌≡◌, sym, ◌∙◌}
use mathlib.Core.Bool.{Bool, true, false, true≢false, false≢true}
use mathlib.Core.Logic.{◌⊎◌, inl, inr, ⊎_elim}
use mathlib.Core.List.{List}
use Prim.Native.Nat.{ℕ, ◌≤◌, ◌<◌}
use native.Mathlib.Omega.{arith}
use lib.ListN.{length}
use Rattle.words.specs.Tests.{◌is◌, ◌and◌, ◌or◌, fails, some, count}
use Rattle.words.proofs.Truth.{decide, not_both, to_false, same_test, and→, →and, or→, →or_left, →or_right, or_false, fails→, →fails, is→, isnt→, some→, none→, count_same}
use Rattle.graph.specs.Matrix.{takes_part, in_row}
use Rattle.graph.specs.Reach.{Way, stay, onward, row_edge, Reaches}
use Rattle.graph.specs.Inner.Peel.{without, unmarked}
use Rattle.graph.proofs.Peel.{without→, →without, count_without}
use Rattle.graph.proofs.Marks.{part→}
use Rattle.graph.proofs.SetWalks.{dropped_out}

-- no member among the vertices: none at all
pub nobody_in : (s : List ℕ) → some 129 (takes_part 128 s) ≡ false → (t : ℕ) → takes_part 128 s t ≡ false
nobody_in s none t = to_false _ (λ h. let z : t ≤ 128 = (part→ 128 s t h).high in not_both h (none→ _ none t (omega arith)))

-- all that was reached so far leads to `to`; what is not in the front is none of `from`, and all from which an edge leads to it were reached
pub record Reached (m from to all front : List ℕ) : Type 0 where
  pub two : length front ≡ 2
  pub inside : (t : ℕ) → takes_part 128 front t ≡ true → takes_part 128 all t ≡ true
  pub begun : (t : ℕ) → takes_part 128 to t ≡ true → takes_part 128 all t ≡ true
  pub goes : (t : ℕ) → takes_part 128 all t ≡ true → (b : ℕ) × (takes_part 128 to b ≡ true) × Way (row_edge m) t b
  pub done : (t : ℕ) → takes_part 128 all t ≡ true → takes_part 128 front t ≡ false
      → (takes_part 128 from t ≡ false) × ((a : ℕ) → row_edge m a t ≡ true → takes_part 128 all a ≡ true)

-- nothing is reached from nobody
pub reached_nobody : (m from to : List ℕ) → some 129 (takes_part 128 from) ≡ false → Reaches m from to false
reached_nobody m from to none = record { found = λ h. absurd (false≢true h); none = λ _ a b h. absurd (not_both h (nobody_in from none a)) }

pub reached_none : (m from to : List ℕ) → length to ≡ 2 → Reached m from to to to
reached_none m from to two =
    record {
      two = two;
      inside = λ t h. h;
      begun = λ t h. h;
      goes = λ t h. (t, h, stay);
      done = λ t h k. absurd (not_both h k);
    }

-- still to be looked at: in the front, or not reached yet
abbrev pub to_do : List ℕ → List ℕ → ℕ → Bool
to_do all front t = takes_part 128 front t or fails (takes_part 128 all t)

module _ {m from to all front : List ℕ} (r : Reached m from to all front) where
  -- one of the front is one of `from`
  pub reached_found : (both : List ℕ) → ((t : ℕ) → takes_part 128 both t ≡ (takes_part 128 front t and takes_part 128 from t)) → some 129 (takes_part 128 both) ≡ true → Reaches m from to true
  reached_found both e h = record { found = λ _. one (some→ h); none = λ k. absurd (true≢false k) }
    where
      one : (i : ℕ) × (i < 129) × (takes_part 128 both i ≡ true) → (a : ℕ) × (b : ℕ) × (takes_part 128 from a ≡ true) × (takes_part 128 to b ≡ true) × Way (row_edge m) a b
      one s = let k = and→ (sym (e s.0) ∙ s.2) in let g = r.goes s.0 (r.inside s.0 k.0) in (s.0, g.0, k.1, g.1, g.2)

  -- the front is empty: whatever leads to `to` was reached, and it is none of `from`
  pub reached_all : some 129 (takes_part 128 front) ≡ false → Reaches m from to false
  reached_all none = record { found = λ h. absurd (false≢true h); none = λ _ a b h k w. not_both h (r.done a (back w (r.begun b k)) (nobody_in front none a)).0 }
    where
      back : {a b : ℕ} → Way (row_edge m) a b → takes_part 128 all b ≡ true → takes_part 128 all a ≡ true
      back stay k = k
      back (onward {a} {b} e w) k = (r.done b (back w k) (nobody_in front none b)).1 a e

  -- one of the front is looked at
  module _ (u : ℕ) (its_turn : takes_part 128 front u ≡ true) (row new more less next : List ℕ) (by_Row : (a : ℕ) → takes_part 128 row a ≡ in_row m u a)
      (is_new : (t : ℕ) → takes_part 128 new t ≡ (takes_part 128 row t and fails (takes_part 128 all t)))
      (is_more : (t : ℕ) → takes_part 128 more t ≡ (takes_part 128 all t or takes_part 128 new t))
      (is_less : less ≡ unmarked u front) (is_next : (t : ℕ) → takes_part 128 next t ≡ (takes_part 128 less t or takes_part 128 new t)) where
    out : (t : ℕ) → takes_part 128 less t ≡ without u (takes_part 128 front) t
    out t = rw is_less (dropped_out front u r.two its_turn t)

    was : (t : ℕ) → takes_part 128 all t ≡ true → takes_part 128 more t ≡ true
    was t h = is_more t ∙ →or_left _ h

    -- from a new one an edge leads to u
    new→ : (t : ℕ) → takes_part 128 new t ≡ true → (row_edge m t u ≡ true) × (takes_part 128 all t ≡ false)
    unfolding row_edge
    new→ t h = let k = and→ (sym (is_new t) ∙ h) in (sym (by_Row t) ∙ k.0, fails→ k.1)

    before_u : (a : ℕ) → row_edge m a u ≡ true → takes_part 128 more a ≡ true
    unfolding row_edge
    before_u a h =
        is_more a ∙ ⊎_elim (λ (k : takes_part 128 all a ≡ true). →or_left _ k) (λ (k : takes_part 128 all a ≡ false). →or_right _ (is_new a ∙ →and (by_Row a ∙ h) (→fails k))) (decide (takes_part 128 all a))

    pub reached_more : length next ≡ 2 → (both : List ℕ) → ((t : ℕ) → takes_part 128 both t ≡ (takes_part 128 front t and takes_part 128 from t)) → some 129 (takes_part 128 both) ≡ false
        → Reached m from to more next
    reached_more two both e none =
        record {
          two = two;
          inside = λ t h. ⊎_elim (λ k. was t (r.inside t (without→ (takes_part 128 front) (sym (out t) ∙ k)).0)) (λ k. is_more t ∙ →or_right _ k) (or→ (sym (is_next t) ∙ h));
          begun = λ t h. was t (r.begun t h);
          goes = λ t h. ⊎_elim (r.goes t) (λ k. let g = r.goes u (r.inside u its_turn) in (g.0, g.1, onward (new→ t k).0 g.2)) (or→ (sym (is_more t) ∙ h));
          done = λ t h k. looked t h k (decide (t is u));
        }
      where
        looked : (t : ℕ) → takes_part 128 more t ≡ true → takes_part 128 next t ≡ false → ((t is u) ≡ true) ⊎ ((t is u) ≡ false)
            → (takes_part 128 from t ≡ false) × ((a : ℕ) → row_edge m a t ≡ true → takes_part 128 more a ≡ true)
        looked t h k (inl z) =
            rw (is→ {m = t} {n = u} z) (to_false _ (λ q. not_both (e u ∙ →and its_turn q) (nobody_in both none u)), before_u)
        looked t h k (inr z) =
            let old : takes_part 128 all t ≡ true = ⊎_elim (λ q. q) (λ q. absurd (not_both (is_next t ∙ →or_right _ q) k)) (or→ (sym (is_more t) ∙ h)) in
            let d = r.done t old (to_false _ (λ q. not_both (is_next t ∙ →or_left _ (out t ∙ →without (takes_part 128 front) q (isnt→ z))) k)) in
            (d.0, λ a q. was a (d.1 a q))

    -- u is no longer to be looked at, and the others are as before
    one_less : (t : ℕ) → to_do more next t ≡ without u (to_do all front) t
    one_less t = same_test there back
      where
        far : takes_part 128 all t ≡ false → without u (to_do all front) t ≡ true
        far k = →without (to_do all front) (→or_right _ (→fails k)) (λ (z : t ≡ u). not_both (r.inside u its_turn) (rw z at k))

        there : to_do more next t ≡ true → without u (to_do all front) t ≡ true
        there h =
            ⊎_elim (λ (k : takes_part 128 next t ≡ true). ⊎_elim (λ (q : takes_part 128 less t ≡ true). let d = without→ (takes_part 128 front) (sym (out t) ∙ q) in →without (to_do all front) (→or_left _ d.0) d.1)
            (λ (q : takes_part 128 new t ≡ true). far (new→ t q).1) (or→ (sym (is_next t) ∙ k)))
            (λ (k : fails (takes_part 128 more t) ≡ true). far (to_false _ (λ q. not_both (was t q) (fails→ k)))) (or→ h)

        back : without u (to_do all front) t ≡ true → to_do more next t ≡ true
        back h =
            let d = without→ (to_do all front) h in
            ⊎_elim (λ (k : takes_part 128 front t ≡ true). →or_left _ (is_next t ∙ →or_left _ (out t ∙ →without (takes_part 128 front) k d.1)))
            (λ (k : fails (takes_part 128 all t) ≡ true). ⊎_elim (λ (q : takes_part 128 new t ≡ true). →or_left _ (is_next t ∙ →or_right _ q))
            (λ (q : takes_part 128 new t ≡ false). →or_right _ (→fails (is_more t ∙ or_false (fails→ k) ∙ q))) (decide (takes_part 128 new t))) (or→ d.0)

    pub reached_less : count 129 (to_do more next) < count 129 (to_do all front)
    reached_less =
        let z : u ≤ 128 = (part→ 128 front u its_turn).high in
        omega (arith, count_without 129 (to_do all front) u (omega arith) (→or_left _ its_turn), count_same 129 (to_do more next) (without u (to_do all front)) (λ t _. one_less t))
