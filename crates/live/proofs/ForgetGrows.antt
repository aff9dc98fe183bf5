-- Forgetting, one step later: whoever was forgotten could still be forgotten, and a step that ends nobody lets nobody go.
use mathlib.Core.Path.{◌≡◌, sym, ap, subst, ◌∙◌}
use mathlib.Core.Bool.{Bool, true, false}
use mathlib.Core.Logic.{◌⊎◌, inl, inr, ⊎_elim}
use mathlib.Core.List.{List}
use Prim.Native.Nat.{ℕ, ◌≤◌, ◌<◌}
use native.Mathlib.Omega.{arith}
use Rattle.words.specs.Tests.{◌is◌, ◌and◌, ◌or◌, fails}
use Rattle.words.proofs.Truth.{decide, not_both, to_false, same_test, and→, →and, or→, →or_left, →or_right, fails→, →fails, is→, →is, isnt→, →isnt, below→, →below, some→, →some}
use Rattle.graph.specs.Reach.{Way, stay, onward}
use Rattle.verdict.specs.Log.{steps, begun, committed, begin_step, commit_step}
use Rattle.verdict.specs.Version.{version_edge}
use Rattle.live.specs.SoFar.{is_open, so_far}
use Rattle.live.specs.Breach.{breached}
use Rattle.live.specs.Forgotten.{overlapped, pointed_at, may_go, Forgets, none_gone, one_gone, Rests}
use Rattle.live.specs.Inner.Accepted.{Accepted}
use Rattle.live.specs.Inner.Seen.{seen_edge}
use Rattle.live.specs.Inner.Chain.{chain_edge}
use Rattle.live.proofs.Grows.{Grows, committed_grows, begin_step_same, begin_step_here, commit_step_same}
use Rattle.live.proofs.Accepted.{Good, open→, committed_range, commit_step_is, good_uncommitted, new_unbegun}
use Rattle.live.proofs.StepFacts.{open_other, open_inside}
use Rattle.live.proofs.SeenEdges.{log_edge}
use Rattle.live.proofs.SeenGrows.{seen_edge_is, committed_same, edge_same, edge_others}
use Rattle.live.proofs.ChainEdges.{chain_way, seen_chain}
use Rattle.live.proofs.ChainGrows.{out_on, chain_out}
use Rattle.live.proofs.Shut.{begun_range, so_far_edge}
use Rattle.live.proofs.Forgetting.{forgets_committed, forgets_same, edges_kept}

-- an edge joins two that have committed
pub ends : (log : List ℕ) (a b : ℕ) → seen_edge log a b ≡ true → (committed log a ≡ true) × (committed log b ≡ true)
ends log a b h = let c = and→ (and→ (and→ (sym (seen_edge_is log a b) ∙ h)).0).0 in (c.0, c.1)

-- who may go, by what the log says
module _ {most : ℕ} {log : List ℕ} (ok : Accepted most log) where
  pub overlapped→ : (f : ℕ) → overlapped most log f ≡ true → (u : ℕ) × (is_open log u ≡ true) × (begin_step log u < commit_step log f)
  unfolding overlapped
  overlapped→ f h = let r = some→ h in let a = and→ r.2 in (r.0, a.0, below→ a.1)

  pub →overlapped : (f u : ℕ) → is_open log u ≡ true → begin_step log u < commit_step log f → overlapped most log f ≡ true
  unfolding overlapped
  →overlapped f u o l = let r : u ≤ most = (begun_range ok u (open→ log u o).0).1 in →some _ u (omega arith) (→and o (→below l))

  -- nobody open overlapped it, and no kept one has an edge to it
  pub record Free (keeps : ℕ → Bool) (f : ℕ) : Type 0 where
    pub over : overlapped most log f ≡ false
    pub apart : (p : ℕ) → keeps p ≡ true → seen_edge log p f ≡ true → ⊥

  module _ (fine : breached most log ≡ false) where
    pub edge_is : (a b : ℕ) → version_edge (so_far most log) a b ≡ seen_edge log a b
    edge_is a b = so_far_edge ok fine a b ∙ log_edge ok fine a b

    pub may_go→ : (keeps : ℕ → Bool) (f : ℕ) → may_go most log keeps f ≡ true → Free keeps f
    unfolding may_go pointed_at
    may_go→ keeps f h =
        let a = and→ h in
        record {
          over = fails→ a.0;
          apart = λ p q e. let l : p ≤ most = (committed_range ok p (ends log p f e).0).1 in not_both (→some (λ v. keeps v and version_edge (so_far most log) v f) p (omega arith) (→and q (edge_is p f ∙ e))) (fails→ a.1);
        }

    pub →may_go : (keeps : ℕ → Bool) (f : ℕ) → Free keeps f → may_go most log keeps f ≡ true
    unfolding may_go pointed_at
    →may_go keeps f c = →and (→fails c.over) (→fails (to_false _ (λ h. let r = some→ h in let a = and→ r.2 in c.apart r.0 a.0 (sym (edge_is r.0 f) ∙ a.1))))

    -- edges lead from a kept one to kept ones only
    module _ {keeps : ℕ → Bool} (f : Forgets most log keeps) where
      pub edge_kept : (a b : ℕ) → keeps a ≡ true → seen_edge log a b ≡ true → keeps b ≡ true
      edge_kept a b k e = edges_kept f a b (committed_range ok a (ends log a b e).0).1 k (edge_is a b ∙ e) (ends log a b e).1

      along : {a b : ℕ} → Way (seen_edge log) a b → keeps a ≡ true → keeps b ≡ true
      along stay k = k
      along (onward {a} {b = c} e w) k = along w (edge_kept a c k e)

      pub chain_kept : (a b : ℕ) → keeps a ≡ true → chain_edge log a b ≡ true → keeps b ≡ true
      chain_kept a b h e = along (chain_way ok fine a b e) h

-- forgetting one that is not kept changes nothing
not_kept : (keeps keeps' : ℕ → Bool) (f : ℕ) → keeps f ≡ false → ((u : ℕ) → keeps' u ≡ (keeps u and fails (u is f))) → (u : ℕ) → keeps' u ≡ keeps u
not_kept keeps keeps' f n e u = e u ∙ same_test (λ h. (and→ h).0) (λ h. →and h (→fails (→isnt (λ (z : u ≡ f). not_both h (ap keeps z ∙ n)))))

module _ {most k t x s : ℕ} {log log' : List ℕ} (ok : Accepted most log) (good : Good most log k t x) (g : Grows log k t x s log') (ok' : Accepted most log')
    (fine : breached most log ≡ false) (fine' : breached most log' ≡ false) where
  new : committed log t ≡ false
  new = good_uncommitted ok good

  not_new : (f : ℕ) → committed log f ≡ true → t ≡ f → ⊥
  not_new f c e = not_both (subst (λ (v : ℕ). committed log v ≡ true) (sym e) c) new

  early : (f : ℕ) → committed log f ≡ true → commit_step log f < steps log
  early f c = (commit_step_is ok f c).0

  -- who overlapped one that had committed had begun before
  overlapped_before : (f : ℕ) → committed log f ≡ true → overlapped most log' f ≡ true → overlapped most log f ≡ true
  overlapped_before f c h = let r = overlapped→ ok' f h in go r.0 r.1 (subst (λ (i : ℕ). begin_step log' r.0 < i) (commit_step_same g f c) r.2) (decide (t is r.0)) (decide (k is 1))
    where
      go : (u : ℕ) → is_open log' u ≡ true → begin_step log' u < commit_step log f → ((t is u) ≡ true) ⊎ ((t is u) ≡ false) → ((k is 1) ≡ true) ⊎ ((k is 1) ≡ false) → overlapped most log f ≡ true
      go u o l (inr e) q =
          let z : is_open log u ≡ true = sym (open_other g u (isnt→ e)) ∙ o in
          →overlapped ok f u z (subst (λ (i : ℕ). i < commit_step log f) (begin_step_same g u (open→ log u z).0) l)
      go u o l (inl e) (inl q) =
          let z : begin_step log' u ≡ steps log = subst (λ (v : ℕ). begin_step log' v ≡ steps log) (is→ e) (begin_step_here g (is→ q) (new_unbegun ok t (good.above (is→ q)))) in
          absurd (let m = early f c in omega arith)
      go u o l (inl e) (inr q) =
          let z : is_open log u ≡ true = subst (λ (v : ℕ). is_open log v ≡ true) (is→ e) (good.alive (isnt→ q)) in
          →overlapped ok f u z (subst (λ (i : ℕ). i < commit_step log f) (begin_step_same g u (open→ log u z).0) l)

  -- WHAT COULD GO CAN STILL GO, where the step is no commit
  pub forgets_grows : (k ≡ 4 → ⊥) → {keeps : ℕ → Bool} → Forgets most log keeps → Forgets most log' keeps
  forgets_grows n (none_gone e) = none_gone (λ u. e u ∙ sym (committed_same ok good g n u))
  forgets_grows n (one_gone {keeps} {keeps'} f c m e) = go (decide (keeps f)) (forgets_grows n c)
    where
      go : (keeps f ≡ true) ⊎ (keeps f ≡ false) → Forgets most log' keeps → Forgets most log' keeps'
      go (inr q) r = forgets_same r (not_kept keeps keeps' f q e)
      go (inl q) r =
          let d = forgets_committed c f q in
          let a = may_go→ ok fine keeps f m in
          one_gone f r (→may_go ok' fine' keeps f (record { over = to_false _ (λ h. not_both (overlapped_before f d h) a.over); apart = λ p w h. a.apart p w (sym (edge_same ok good g n p f) ∙ h) })) e

  -- A COMMIT: whom it has an edge to it overlapped
  module _ (commit : k ≡ 4) where
    pub out_overlaps : (f : ℕ) → (t ≡ f → ⊥) → chain_edge log' t f ≡ true → (committed log f ≡ true) × (overlapped most log f ≡ true)
    unfolding out_on
    out_overlaps f d e =
        let a = and→ (sym (chain_out ok good g commit f d) ∙ e) in
        let r = some→ a.1 in
        (a.0, →overlapped ok f t (good.alive (λ (q : k ≡ 1). omega arith)) (below→ (and→ r.2).1))

    pub forgets_commit : {keeps : ℕ → Bool} → Forgets most log keeps → Forgets most log' (λ u. keeps u or t is u)
    forgets_commit (none_gone e) =
        none_gone (λ u. ap (λ (z : Bool). z or t is u) (e u) ∙ sym (committed_grows g u ∙ ap (λ (z : Bool). committed log u or z) (same_test (λ h. (and→ h).1) (λ h. →and (→is commit) h))))
    forgets_commit (one_gone {keeps} {keeps'} f c m e) = go (decide (keeps f)) (forgets_commit c)
      where
        go : (keeps f ≡ true) ⊎ (keeps f ≡ false) → Forgets most log' (λ u. keeps u or t is u) → Forgets most log' (λ u. keeps' u or t is u)
        go (inr q) r = forgets_same r (λ u. ap (λ (z : Bool). z or t is u) (not_kept keeps keeps' f q e u))
        go (inl q) r = one_gone f r (→may_go ok' fine' _ f (record { over = to_false _ (λ h. not_both (overlapped_before f d h) a.over); apart = apart })) without
          where
            d : committed log f ≡ true
            d = forgets_committed c f q

            a : Free ok keeps f
            a = may_go→ ok fine keeps f m

            apart : (p : ℕ) → (keeps p or t is p) ≡ true → seen_edge log' p f ≡ true → ⊥
            apart p w h =
                ⊎_elim (λ (z : keeps p ≡ true). a.apart p z (sym (edge_others ok good g p f (not_new p (forgets_committed c p z)) (not_new f d)) ∙ h))
                (λ (z : (t is p) ≡ true). not_both (out_overlaps f (not_new f d) (subst (λ (v : ℕ). chain_edge log' v f ≡ true) (sym (is→ z)) (seen_chain ok' fine' p f h))).1 a.over) (or→ w)

            without : (u : ℕ) → (keeps' u or t is u) ≡ ((keeps u or t is u) and fails (u is f))
            without u =
                ap (λ (z : Bool). z or t is u) (e u)
                ∙ same_test (λ h. ⊎_elim (λ z. let b = and→ z in →and (→or_left _ b.0) b.1) (λ z. →and (→or_right _ z) (→fails (→isnt (λ (y : u ≡ f). not_new f d (is→ z ∙ y))))) (or→ h))
                (λ h. let b = and→ h in ⊎_elim (λ z. →or_left _ (→and z b.1)) (λ z. →or_right _ z) (or→ b.0))

  -- A STEP THAT ENDS NOBODY lets nobody go
  overlapped_after : (k ≡ 4 → ⊥) → (k ≡ 5 → ⊥) → (f : ℕ) → committed log f ≡ true → overlapped most log f ≡ true → overlapped most log' f ≡ true
  overlapped_after m n f c h =
      let r = overlapped→ ok f h in
      let b : begun log (steps log) r.0 ≡ true = (open→ log r.0 r.1).0 in
      →overlapped ok' f r.0 (stays r.0 r.1 (decide (k is 1))) (subst (λ (i : ℕ). begin_step log' r.0 < i) (sym (commit_step_same g f c)) (subst (λ (i : ℕ). i < commit_step log f) (sym (begin_step_same g r.0 b)) r.2))
    where
      stays : (u : ℕ) → is_open log u ≡ true → ((k is 1) ≡ true) ⊎ ((k is 1) ≡ false) → is_open log' u ≡ true
      stays u o (inl q) = open_other g u (λ (e : t ≡ u). not_both (open→ log u o).0 (subst (λ (v : ℕ). begun log (steps log) v ≡ false) e (new_unbegun ok t (good.above (is→ q))))) ∙ o
      stays u o (inr q) = open_inside ok good g (isnt→ q) m n u ∙ o

  pub rests_grows : (k ≡ 4 → ⊥) → (k ≡ 5 → ⊥) → {keeps : ℕ → Bool} → Forgets most log keeps → Rests most log keeps → Rests most log' keeps
  rests_grows m n {keeps} c r f q = to_false _ (λ h.
      let a = may_go→ ok' fine' keeps f h in
      not_both (→may_go ok fine keeps f (record { over = to_false _ (λ z. not_both (overlapped_after m n f (forgets_committed c f q) z) a.over); apart = λ p w e. a.apart p w (edge_same ok good g m p f ∙ e) })) (r f q))
