-- Cycles of the edges that are kept: where a cycle is closed, and which one a commit can close.
use mathlib.Core.Path.{◌≡◌, refl, sym, ap, subst, fun_ext, ◌∙◌}
use mathlib.Core.Bool.{Bool, true, false}
use mathlib.Core.Logic.{◌⊎◌, inl, inr, ⊎_elim}
use mathlib.Core.List.{List}
use Prim.Native.Nat.{ℕ, suc, ◌≤◌, ◌<◌}
use native.Mathlib.Omega.{arith}
use Rattle.words.specs.Tests.{◌is◌, count}
use Rattle.words.proofs.Truth.{decide, not_both, to_false, and→, fails→, is→, isnt→, count_above}
use Rattle.graph.specs.Cycle.{is_cycle}
use Rattle.graph.specs.Reach.{Way, stay, onward}
use Rattle.graph.proofs.Ways.{way_join, way_more, way_cycle, cycle_back}
use Rattle.verdict.specs.Log.{committed}
use Rattle.verdict.specs.Version.{version_edge}
use Rattle.live.specs.Breach.{breached}
use Rattle.live.specs.Closed.{round, closed}
use Rattle.live.specs.Inner.Accepted.{Accepted}
use Rattle.live.specs.Inner.Seen.{seen_edge}
use Rattle.live.specs.Inner.Chain.{chain_edge}
use Rattle.live.proofs.Grows.{Grows}
use Rattle.live.proofs.Accepted.{Good, committed_range, good_uncommitted}
use Rattle.live.proofs.Rounds.{round_cycle, cycle_round}
use Rattle.live.proofs.SeenEdges.{log_edge}
use Rattle.live.proofs.SeenGrows.{seen_edge_is}
use Rattle.live.proofs.ChainEdges.{chain_way, seen_chain}
use Rattle.live.proofs.ChainGrows.{chain_ends, chain_others}

-- the ends of an edge have committed, and are not the same
edge_ends : (log : List ℕ) (a b : ℕ) → seen_edge log a b ≡ true → (committed log a ≡ true) × (committed log b ≡ true) × (a ≡ b → ⊥)
edge_ends log a b h = let p = and→ (sym (seen_edge_is log a b) ∙ h) in let q = and→ p.0 in let c = and→ q.0 in (c.0, c.1, isnt→ (fails→ q.1))

module _ {most : ℕ} {log : List ℕ} (ok : Accepted most log) where
  few : count (suc most) (committed log) < suc most
  few = let l : count (suc most) (committed log) ≤ most = count_above most (committed log) (to_false _ (λ c. let r : 1 ≤ 0 = (committed_range ok 0 c).0 in omega arith)) in omega arith

  inside : (t : ℕ) → committed log t ≡ true → (t < suc most) × (committed log t ≡ true)
  inside t c = (let l : t ≤ most = (committed_range ok t c).1 in omega arith, c)

  module _ (fine : breached most log ≡ false) where
    pub starts : (a b : ℕ) → version_edge log a b ≡ true → (a < suc most) × (committed log a ≡ true)
    starts a b h = inside a (edge_ends log a b (sym (log_edge ok fine a b) ∙ h)).0

    arrives : (a b : ℕ) → version_edge log a b ≡ true → (b < suc most) × (committed log b ≡ true)
    arrives a b h = inside b (edge_ends log a b (sym (log_edge ok fine a b) ∙ h)).1

    pub no_own : (a : ℕ) → version_edge log a a ≡ true → ⊥
    no_own a h = (edge_ends log a a (sym (log_edge ok fine a a) ∙ h)).2 refl

    -- closed: there is a cycle of version edges
    pub closed_cycle : closed most log ≡ true → (c : List ℕ) × (is_cycle (version_edge log) c ≡ true)
    unfolding closed
    closed_cycle h = round_cycle (version_edge log) (suc most) (committed log) few starts arrives no_own h

    pub cycle_closes : (c : List ℕ) → is_cycle (version_edge log) c ≡ true → closed most log ≡ true
    unfolding closed
    cycle_closes c h = cycle_round (version_edge log) (suc most) (committed log) few starts arrives no_own c h

    -- .. or a way along the edges that are kept, and one of them back
    pub record Back : Type 0 where
      pub home : ℕ
      pub end : ℕ
      pub back : chain_edge log end home ≡ true
      pub way : Way (chain_edge log) home end

    kept : (a b : ℕ) → version_edge log a b ≡ true → chain_edge log a b ≡ true
    kept a b e = seen_chain ok fine a b (sym (log_edge ok fine a b) ∙ e)

    pub closed_way : closed most log ≡ true → Back
    closed_way h =
        let c = closed_cycle h in
        let r = cycle_back (version_edge log) c.0 c.1 in
        record { home = r.0; end = r.1; back = kept r.1 r.0 r.2; way = way_more (version_edge log) (chain_edge log) kept r.3 }

    -- a way along the edges that are kept is one along version edges
    versions : {a b : ℕ} → Way (chain_edge log) a b → Way (version_edge log) a b
    versions stay = stay
    versions (onward {a} {b} {c} e w) = way_join (way_more (seen_edge log) (version_edge log) (λ p q h. log_edge ok fine p q ∙ h) (chain_way ok fine a b e)) (versions w)

    back_closes : {a b : ℕ} → Way (version_edge log) b a → Way (version_edge log) a b → (b ≡ a → ⊥) → closed most log ≡ true
    back_closes stay w n = absurd (n refl)
    back_closes (onward {a = b} {b = d} e v) w n = let c = way_cycle (version_edge log) no_own d b e (way_join v w) in cycle_closes c.0 c.1

    pub way_closes : (a b : ℕ) → chain_edge log b a ≡ true → Way (chain_edge log) a b → closed most log ≡ true
    way_closes a b e w = back_closes (versions (onward e stay)) (versions w) (chain_ends log b a e).2

-- one that has not committed has no edge
pub no_edge_new : {most k t x : ℕ} {log : List ℕ} → Accepted most log → Good most log k t x → (a b : ℕ) → (a ≡ t) ⊎ (b ≡ t) → chain_edge log a b ≡ false
no_edge_new {log = log} ok good a b e = to_false _ (λ h.
    let r = chain_ends log a b h in
    let new = good_uncommitted ok good in
    ⊎_elim (λ z. not_both (subst (λ (v : ℕ). committed log v ≡ true) z r.0) new) (λ z. not_both (subst (λ (v : ℕ). committed log v ≡ true) z r.1) new) e)

-- the same edges, the same cycles
pub closed_alike : {most : ℕ} {log log' : List ℕ} → Accepted most log → Accepted most log' → breached most log ≡ false → breached most log' ≡ false → ((a b : ℕ) → seen_edge log' a b ≡ seen_edge log a b)
    → closed most log' ≡ closed most log
unfolding closed
closed_alike {most} ok ok' fine fine' same =
    ap (λ (e : ℕ → ℕ → Bool). round e (suc most)) (fun_ext (λ a. fun_ext (λ b. log_edge ok' fine' a b ∙ same a b ∙ sym (log_edge ok fine a b))))

-- A COMMIT of t closes a cycle exactly where the edges of before lead from one to which t's lead to one from which they lead to t
module _ {most k t x s : ℕ} {log log' : List ℕ} (ok : Accepted most log) (good : Good most log k t x) (g : Grows log k t x s log') (ok' : Accepted most log')
    (fine : breached most log ≡ false) (acyclic : closed most log ≡ false) (fine' : breached most log' ≡ false) where
  pub record Round : Type 0 where
    pub next : ℕ
    pub last : ℕ
    pub out : chain_edge log' t next ≡ true
    pub between : Way (chain_edge log) next last
    pub into : chain_edge log' last t ≡ true

  -- an edge of before does not touch t
  old : (a b : ℕ) → chain_edge log a b ≡ true → (t ≡ a → ⊥) × (t ≡ b → ⊥)
  old a b h =
      let r = chain_ends log a b h in
      let new : committed log t ≡ false = good_uncommitted ok good in
      (λ (e : t ≡ a). not_both (rw e r.0) new, λ (e : t ≡ b). not_both (rw e r.1) new)

  stays : (a b : ℕ) → chain_edge log a b ≡ true → chain_edge log' a b ≡ true
  stays a b h = let d = old a b h in chain_others ok good g a b d.0 d.1 ∙ h

  pub →closes : Round → closed most log' ≡ true
  →closes r = way_closes ok' fine' t r.last r.into (onward r.out (way_more (chain_edge log) (chain_edge log') stays r.between))

  -- an edge of now is one of before, or touches t
  which : (a b : ℕ) → chain_edge log' a b ≡ true → (t ≡ a) ⊎ (t ≡ b) ⊎ (chain_edge log a b ≡ true)
  which a b h = go (decide (t is a)) (decide (t is b))
    where
      go : ((t is a) ≡ true) ⊎ ((t is a) ≡ false) → ((t is b) ≡ true) ⊎ ((t is b) ≡ false) → (t ≡ a) ⊎ (t ≡ b) ⊎ (chain_edge log a b ≡ true)
      go (inl p) q = inl (is→ p)
      go (inr p) (inl q) = inr (inl (is→ q))
      go (inr p) (inr q) = inr (inr (sym (chain_others ok good g a b (isnt→ p) (isnt→ q)) ∙ h))

  -- a way of now is one of before, or passes t
  passes : {a c : ℕ} → Way (chain_edge log') a c → Way (chain_edge log) a c ⊎ (Way (chain_edge log') a t × Way (chain_edge log') t c)
  passes stay = inl stay
  passes (onward {a} {b} {c} e w) = go (which a b e) (passes w)
    where
      go : (t ≡ a) ⊎ (t ≡ b) ⊎ (chain_edge log a b ≡ true) → Way (chain_edge log) b c ⊎ (Way (chain_edge log') b t × Way (chain_edge log') t c) → Way (chain_edge log) a c ⊎ (Way (chain_edge log') a t × Way (chain_edge log') t c)
      go (inl p) q = inr (subst (λ (z : ℕ). Way (chain_edge log') z t) p stay, subst (λ (z : ℕ). Way (chain_edge log') z c) (sym p) (onward e w))
      go (inr (inl p)) q = inr (onward e (subst (λ (z : ℕ). Way (chain_edge log') z t) p stay), subst (λ (z : ℕ). Way (chain_edge log') z c) (sym p) w)
      go (inr (inr p)) (inl q) = inl (onward p q)
      go (inr (inr p)) (inr q) = inr (onward e q.0, q.1)

  -- a way to t comes, by edges of before, to one from which an edge leads to t
  record Arrival (a : ℕ) : Type 0 where
    from : ℕ
    way : Way (chain_edge log) a from
    into : chain_edge log' from t ≡ true

  arrival : {a c : ℕ} → Way (chain_edge log') a c → t ≡ c → (t ≡ a → ⊥) → Arrival a
  arrival stay p d = absurd (d p)
  arrival (onward {a} {b} {c} e w) p d = go (which a b e) (arrival w p)
    where
      go : (t ≡ a) ⊎ (t ≡ b) ⊎ (chain_edge log a b ≡ true) → ((t ≡ b → ⊥) → Arrival b) → Arrival a
      go (inl q) rec = absurd (d q)
      go (inr (inl q)) rec = record { from = a; way = stay; into = subst (λ (z : ℕ). chain_edge log' a z ≡ true) (sym q) e }
      go (inr (inr q)) rec = let r = rec (old a b q).1 in record { from = r.from; way = onward q r.way; into = r.into }

  -- from t back to t
  leaving : (b : ℕ) → chain_edge log' t b ≡ true → Way (chain_edge log') b t → Round
  leaving b e w = let r = arrival w refl (chain_ends log' t b e).2 in record { next = b; last = r.from; out = e; between = r.way; into = r.into }

  turn : {a c : ℕ} (h : ℕ) → t ≡ a → Way (chain_edge log') a c → chain_edge log' c h ≡ true → Way (chain_edge log') h t → Round
  turn h p (stay {a}) e v = leaving h (subst (λ (z : ℕ). chain_edge log' z h ≡ true) (sym p) e) v
  turn h p (onward {a} {b} {c} f u) e v = leaving b (subst (λ (z : ℕ). chain_edge log' z b ≡ true) (sym p) f) (way_join u (onward e v))

  pub closes→ : closed most log' ≡ true → Round
  closes→ h = go (passes r.way) (which r.end r.home r.back)
    where
      r : Back ok' fine'
      r = closed_way ok' fine' h

      go : Way (chain_edge log) r.home r.end ⊎ (Way (chain_edge log') r.home t × Way (chain_edge log') t r.end) → (t ≡ r.end) ⊎ (t ≡ r.home) ⊎ (chain_edge log r.end r.home ≡ true) → Round
      go (inl w) (inl e) = turn r.home e stay r.back (subst (λ (z : ℕ). Way (chain_edge log') r.home z) (sym e) r.way)
      go (inl w) (inr (inl e)) = turn r.home e r.way r.back (subst (λ (z : ℕ). Way (chain_edge log') z t) e stay)
      go (inl w) (inr (inr e)) = absurd (not_both (way_closes ok fine r.home r.end e w) acyclic)
      go (inr w) e = turn r.home refl w.1 r.back w.0
