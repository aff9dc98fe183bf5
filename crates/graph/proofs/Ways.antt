-- Ways along edges: one behind another, ways where there are more edges, and what ways have to do with cycles.
use mathlib.Core.Path.{◌≡◌}
use mathlib.Core.Bool.{Bool, true, false≢true}
use mathlib.Core.List.{List, [], ◌∷◌}
use Prim.Native.Nat.{ℕ, suc}
use native.Mathlib.Omega.{arith}
use lib.ListN.{length}
use Rattle.words.proofs.Truth.{and→, →and}
use Rattle.graph.specs.Cycle.{leads, is_cycle}
use Rattle.graph.specs.Reach.{Way, stay, onward}
use Rattle.graph.proofs.Walks.{closed_cycle}

pub way_join : {edge : ℕ → ℕ → Bool} {a b c : ℕ} → Way edge a b → Way edge b c → Way edge a c
way_join stay w = w
way_join (onward e v) w = onward e (way_join v w)

pub way_more : (edge edge' : ℕ → ℕ → Bool) → ((a b : ℕ) → edge a b ≡ true → edge' a b ≡ true) → {a b : ℕ} → Way edge a b → Way edge' a b
way_more edge edge' f stay = stay
way_more edge edge' f (onward {a} {b} e w) = onward (f a b e) (way_more edge edge' f w)

module _ (edge : ℕ → ℕ → Bool) where
  -- a way and an edge from its end, as a list; and back
  way_leads : {a b : ℕ} (h : ℕ) → Way edge a b → edge b h ≡ true → (t : List ℕ) × (leads edge h (a ∷ t) ≡ true)
  unfolding leads
  way_leads h stay e = ([], e)
  way_leads h (onward {a} {b} k w) e = let r = way_leads h w e in (b ∷ r.0, →and k r.1)

  leads_way : (h a : ℕ) (t : List ℕ) → leads edge h (a ∷ t) ≡ true → (b : ℕ) × (edge b h ≡ true) × Way edge a b
  unfolding leads
  leads_way h a [] k = (a, k, stay)
  leads_way h a (b ∷ t) k = let r = leads_way h b t (and→ k).1 in (r.0, r.1, onward (and→ k).0 r.2)

-- a way and an edge back hold a cycle
pub way_cycle : (edge : ℕ → ℕ → Bool) → ((a : ℕ) → edge a a ≡ true → ⊥) → (a b : ℕ) → edge b a ≡ true → Way edge a b → (c : List ℕ) × (is_cycle edge c ≡ true)
way_cycle edge no_loop a b e w =
    let r = way_leads edge a w e in
    let i = closed_cycle edge no_loop (suc (length r.0)) a r.0 (omega arith) r.1 in
    (i.0, i.1)

-- a cycle is a way and an edge back
pub cycle_back : (edge : ℕ → ℕ → Bool) (c : List ℕ) → is_cycle edge c ≡ true → (a : ℕ) × (b : ℕ) × (edge b a ≡ true) × Way edge a b
unfolding is_cycle
cycle_back edge [] h = absurd (false≢true h)
cycle_back edge (a ∷ c) h = let r = leads_way edge a a c (and→ h).1 in (a, r.0, r.1, r.2)
